-- "The other ways in", label text: a code's exact UTF-8 bytes, and the code of given bytes.
use Rattle.std.specs.Prelude.{ℕ, suc, ◌-◌, Bool, true, false, cond, ◌&&◌, List, [], ◌∷◌, ◌++◌, eqb, leb, length, get_or, take, replicate}
use Rattle.rule_types.specs.Number.{labels}
use Rattle.label_texts.specs.declared.label_text.Text.{Text}

-- the bytes of each label, in the order of the codes
abbrev pub texts_of_labels : List (List ℕ)
texts_of_labels =
    (229 ∷ 133 ∷ 182 ∷ 228 ∷ 187 ∷ 150 ∷ []) ∷  -- 0 其他
    (228 ∷ 187 ∷ 187 ∷ 230 ∷ 132 ∷ 143 ∷ []) ∷  -- 1 任意
    (230 ∷ 187 ∷ 161 ∷ 232 ∷ 182 ∷ 179 ∷ []) ∷  -- 2 满足
    (233 ∷ 148 ∷ 164 ∷ 229 ∷ 173 ∷ 144 ∷ []) ∷  -- 3 锤子
    (228 ∷ 184 ∷ 138 ∷ 229 ∷ 144 ∷ 138 ∷ []) ∷  -- 4 上吊
    (231 ∷ 156 ∷ 139 ∷ 230 ∷ 182 ∷ 168 ∷ 229 ∷ 144 ∷ 158 ∷ 230 ∷ 178 ∷ 161 ∷ []) ∷  -- 5 看涨吞没
    (231 ∷ 156 ∷ 139 ∷ 232 ∷ 183 ∷ 140 ∷ 229 ∷ 144 ∷ 158 ∷ 230 ∷ 178 ∷ 161 ∷ []) ∷  -- 6 看跌吞没
    (228 ∷ 184 ∷ 138 ∷ 229 ∷ 141 ∷ 135 ∷ 228 ∷ 184 ∷ 137 ∷ 230 ∷ 179 ∷ 149 ∷ []) ∷  -- 7 上升三法
    (228 ∷ 184 ∷ 139 ∷ 233 ∷ 153 ∷ 141 ∷ 228 ∷ 184 ∷ 137 ∷ 230 ∷ 179 ∷ 149 ∷ []) ∷  -- 8 下降三法
    (53 ∷ 75 ∷ []) ∷  -- 9 5K
    (54 ∷ 75 ∷ []) ∷  -- 10 6K
    (55 ∷ 75 ∷ []) ∷  -- 11 7K
    (56 ∷ 75 ∷ []) ∷  -- 12 8K
    (57 ∷ 75 ∷ []) ∷  -- 13 9K
    (229 ∷ 144 ∷ 175 ∷ 230 ∷ 152 ∷ 142 ∷ 230 ∷ 152 ∷ 159 ∷ []) ∷  -- 14 启明星
    (233 ∷ 187 ∷ 132 ∷ 230 ∷ 152 ∷ 143 ∷ 230 ∷ 152 ∷ 159 ∷ []) ∷  -- 15 黄昏星
    (228 ∷ 184 ∷ 173 ∷ 233 ∷ 151 ∷ 180 ∷ 229 ∷ 141 ∷ 129 ∷ 229 ∷ 173 ∷ 151 ∷ []) ∷  -- 16 中间十字
    (228 ∷ 184 ∷ 139 ∷ 232 ∷ 183 ∷ 140 ∷ 229 ∷ 136 ∷ 134 ∷ 230 ∷ 137 ∷ 139 ∷ []) ∷  -- 17 下跌分手
    (228 ∷ 184 ∷ 138 ∷ 229 ∷ 141 ∷ 135 ∷ 229 ∷ 136 ∷ 134 ∷ 230 ∷ 137 ∷ 139 ∷ []) ∷  -- 18 上升分手
    (231 ∷ 174 ∷ 173 ∷ 229 ∷ 156 ∷ 168 ∷ 229 ∷ 188 ∷ 166 ∷ []) ∷  -- 19 箭在弦
    (233 ∷ 163 ∷ 142 ∷ 228 ∷ 184 ∷ 173 ∷ 231 ∷ 131 ∷ 155 ∷ []) ∷  -- 20 风中烛
    (231 ∷ 156 ∷ 139 ∷ 231 ∷ 169 ∷ 186 ∷ []) ∷  -- 21 看空
    (231 ∷ 156 ∷ 139 ∷ 229 ∷ 164 ∷ 154 ∷ []) ∷  -- 22 看多
    (229 ∷ 186 ∷ 149 ∷ 233 ∷ 131 ∷ 168 ∷ []) ∷  -- 23 底部
    (233 ∷ 161 ∷ 182 ∷ 233 ∷ 131 ∷ 168 ∷ []) ∷  -- 24 顶部
    (229 ∷ 174 ∷ 158 ∷ 228 ∷ 189 ∷ 147 ∷ 230 ∷ 160 ∷ 135 ∷ 229 ∷ 135 ∷ 134 ∷ []) ∷  -- 25 实体标准
    (229 ∷ 184 ∷ 184 ∷ 232 ∷ 167 ∷ 132 ∷ []) ∷  -- 26 常规
    (229 ∷ 138 ∷ 160 ∷ 229 ∷ 188 ∷ 186 ∷ []) ∷  -- 27 加强
    (229 ∷ 141 ∷ 138 ∷ 229 ∷ 138 ∷ 160 ∷ 229 ∷ 188 ∷ 186 ∷ []) ∷  -- 28 半加强
    (232 ∷ 156 ∷ 187 ∷ 232 ∷ 156 ∷ 147 ∷ 229 ∷ 141 ∷ 129 ∷ 229 ∷ 173 ∷ 151 ∷ 231 ∷ 186 ∷ 191 ∷ []) ∷  -- 29 蜻蜓十字线
    (229 ∷ 162 ∷ 147 ∷ 231 ∷ 162 ∷ 145 ∷ 229 ∷ 141 ∷ 129 ∷ 229 ∷ 173 ∷ 151 ∷ 231 ∷ 186 ∷ 191 ∷ []) ∷  -- 30 墓碑十字线
    (233 ∷ 149 ∷ 191 ∷ 232 ∷ 133 ∷ 191 ∷ 229 ∷ 141 ∷ 129 ∷ 229 ∷ 173 ∷ 151 ∷ 231 ∷ 186 ∷ 191 ∷ []) ∷  -- 31 长腿十字线
    (229 ∷ 141 ∷ 129 ∷ 229 ∷ 173 ∷ 151 ∷ 231 ∷ 186 ∷ 191 ∷ []) ∷  -- 32 十字线
    (229 ∷ 140 ∷ 151 ∷ 230 ∷ 150 ∷ 185 ∷ []) ∷  -- 33 北方
    (231 ∷ 156 ∷ 139 ∷ 230 ∷ 182 ∷ 168 ∷ 229 ∷ 143 ∷ 141 ∷ 229 ∷ 135 ∷ 187 ∷ 231 ∷ 186 ∷ 191 ∷ []) ∷  -- 34 看涨反击线
    (231 ∷ 156 ∷ 139 ∷ 232 ∷ 183 ∷ 140 ∷ 229 ∷ 143 ∷ 141 ∷ 229 ∷ 135 ∷ 187 ∷ 231 ∷ 186 ∷ 191 ∷ []) ∷  -- 35 看跌反击线
    (229 ∷ 144 ∷ 145 ∷ 228 ∷ 184 ∷ 138 ∷ 232 ∷ 183 ∷ 179 ∷ 231 ∷ 169 ∷ 186 ∷ []) ∷  -- 36 向上跳空
    (229 ∷ 144 ∷ 145 ∷ 228 ∷ 184 ∷ 139 ∷ 232 ∷ 183 ∷ 179 ∷ 231 ∷ 169 ∷ 186 ∷ []) ∷  -- 37 向下跳空
    []

-- the bytes of a code; a code above 37 has no bytes
abbrev pub bytes_of : ℕ → List ℕ
bytes_of code = get_or texts_of_labels code []

-- they come by value with their count, at most 15, filled up with zeros
abbrev pub most_bytes : ℕ
most_bytes = 15

unfoldable pub text_of : ℕ → Text
text_of code = let s = bytes_of code in record { bytes = s ++ replicate (most_bytes - length s) 0; len = length s }

-- whether two lists of bytes are the same
unfoldable pub same : List ℕ → List ℕ → Bool
same [] [] = true
same [] (y ∷ ys) = false
same (x ∷ xs) [] = false
same (x ∷ xs) (y ∷ ys) = eqb x y && same xs ys

-- the place of bytes in a list of labels, or its length
unfoldable pub place_in : List (List ℕ) → List ℕ → ℕ
place_in [] s = 0
place_in (l ∷ ls) s = cond (same l s) 0 (suc (place_in ls s))

-- the code of bytes; bytes that are no label have code 38
abbrev pub code_of_bytes : List ℕ → ℕ
code_of_bytes s = place_in texts_of_labels s

-- the code of bytes that come by value: of as many as their count says, which must be at most 15
unfoldable pub code_of_text : Text → ℕ
code_of_text t = cond (leb t.len most_bytes) (code_of_bytes (take t.len t.bytes)) labels
