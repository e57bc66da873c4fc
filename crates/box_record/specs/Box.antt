-- "A feed reaches the box", "A look": the box, its making and a look, for every box that a caller can hand in.
use Rattle.std.specs.Prelude.{Err, Ok}
use Rattle.answers.specs.Refusal.{Verdict}
use Rattle.answers.specs.Answer.{Answer, LookAnswer}
use Rattle.std.specs.Prelude.{ℕ, List, [], ◌∷◌, map, take, replicate}
use Rattle.measures.specs.Bar.{Bar, bar_of}
use Rattle.measures.specs.Price.{zero}
use Rattle.measures.specs.Window.{up_to}
use Rattle.recognisers.specs.Threshold.{Thresholds, standard_set}
use Rattle.recognisers.specs.Number.{places}
use Rattle.recognisers.specs.Table.{pair_at}
use Rattle.recognisers.specs.Refusal.{bad_threshold, first_true, look_verdict, answer_to, with_ordinal}
use Rattle.box_record.specs.declared.boxes.{KeptBar.KeptBar, BarBox.BarBox, Outcome.Outcome}

-- ---- the box

-- the record that the box keeps: a bar and its ordinal
abbrev pub kept_bar : Bar → ℕ → KeptBar
kept_bar bar ordinal = record { bar = bar; ordinal = ordinal }

-- the bars of records
abbrev pub bars_in : List KeptBar → List Bar
bars_in records = map (λ (r : KeptBar). r.bar) records

-- the records that the box keeps: of the newest 64 of the N bars fed, or of all if fewer, oldest first from the first place
abbrev pub held : BarBox → List KeptBar
held b = take b.count b.bars

-- the bars that it keeps
abbrev pub kept : BarBox → List Bar
kept b = bars_in (held b)

-- empty places hold zeros, ordinals too
abbrev pub empty_place : KeptBar
empty_place = kept_bar (bar_of zero zero zero zero) 0

unfoldable pub empty_places : List KeptBar
empty_places = replicate places empty_place

-- a fresh box has no bars and its thresholds
abbrev pub fresh_box : Thresholds → BarBox
fresh_box t = record { thresholds = t; count = 0; bars = empty_places }

-- ---- the calls

-- a call's verdict with the box after it
abbrev pub outcome : Verdict → BarBox → Outcome
outcome v b = record { verdict = v; after = b }

-- box-making tries 3; a refused one gives a fresh box with the standard set
abbrev pub made_by : Verdict → Thresholds → BarBox
made_by (Ok _) t = fresh_box t
made_by (Err r) t = fresh_box standard_set

unfoldable pub made_of : Thresholds → Outcome
made_of t = let v = first_true (bad_threshold t ∷ []) in outcome v (made_by v t)

-- a look tries 1, 2, 3, 5 and 7 (look_verdict). The pair is that over the kept bars, with N for len, so that p = N − di + 1
unfoldable pub look_of : BarBox → ℕ → ℕ → Answer
look_of b k di = answer_to (look_verdict k di b.thresholds b.count) (Ok (pair_at k b.thresholds b.count (kept b) di))

-- the judged bar's ordinal is N − di + 1, or 0 where there is none, as p is; no ordinal of a record is read for it
unfoldable pub look_answer_of : BarBox → ℕ → ℕ → LookAnswer
look_answer_of b k di = with_ordinal (look_of b k di) (up_to b.count di)
