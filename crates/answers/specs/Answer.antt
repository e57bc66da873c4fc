-- What calls answer, and this paper's number and values for each answer.
use Rattle.std.specs.Prelude.{ℕ, ◌+◌, ◌*◌, List, [], ◌∷◌, Result, Ok, Err}
use Rattle.rule_types.specs.declared.label.Pair.{Pair}
use Rattle.rule_types.specs.Label.{code_of, codes_of}
use Rattle.answers.specs.declared.refusals.Refusal.{Refusal}
use Rattle.answers.specs.declared.Judged.{Judged}
use Rattle.answers.specs.Refusal.{Verdict, refusal_number}

-- what a call answers: a pair, or the refusal alone
abbrev pub Answer : Type 0
Answer = Result Pair Refusal

-- what a look answers: the pair with the judged bar's ordinal, or the refusal alone
abbrev pub LookAnswer : Type 0
LookAnswer = Result Judged Refusal

-- what a call answers to its verdict: the refusal alone, or the pair
abbrev pub answer_to : Verdict → Answer → Answer
answer_to (Ok _) a = a
answer_to (Err r) a = Err r

-- a look also hands back the judged bar's ordinal; a refusal is its number alone
abbrev pub with_ordinal : Answer → ℕ → LookAnswer
with_ordinal (Ok pair) ordinal = Ok (record { pair = pair; ordinal = ordinal })
with_ordinal (Err r) ordinal = Err r

-- ---- this paper's number and values for each answer

-- the refusal's number, 0 if there is none; and the codes of v1 and v2, which a refusal does not have
abbrev pub refusal_in : Answer → ℕ
refusal_in (Ok pair) = 0
refusal_in (Err r) = refusal_number r

abbrev pub codes_in : Answer → List ℕ
codes_in (Ok pair) = codes_of (pair ∷ [])
codes_in (Err r) = []

-- a look's are those of the answer in it; besides there is the judged bar's ordinal, which a refusal does not have
abbrev pub answer_in : LookAnswer → Answer
answer_in (Ok judged) = Ok judged.pair
answer_in (Err r) = Err r

abbrev pub ordinal_in : LookAnswer → ℕ
ordinal_in (Ok judged) = judged.ordinal
ordinal_in (Err r) = 0

-- ---- as one number, for a host program

-- v1 × 256 + v2, or 65,536 plus the refusal
abbrev pub pair_number : Pair → ℕ
pair_number pair = code_of pair.v1 * 256 + code_of pair.v2

abbrev pub result_of : Answer → ℕ
result_of (Ok pair) = pair_number pair
result_of (Err r) = 65536 + refusal_number r
