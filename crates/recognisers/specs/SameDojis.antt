-- 13 and 14, whose th counts tenths (02, P4), beside 01's, whose th counts units: ten times a threshold of 01's is within the limits, and with it
-- the doji test, both pairs at every offset of every history and the labels of both plain calls are 01's at that threshold.
-- proofs/SameDojis.antt shows it of every k up to 1,000,000, 01's limit.
use Rattle.std.specs.Prelude.{Ok}
use Rattle.std.specs.Prelude.{ℕ, ◌*◌, Bool, true, ◌≡◌, List, length}
use Rattle.measures.specs.Bar.{Bar, doji_above, doji_of}
use Rattle.rule_types.specs.Number.{whole_of}
use Rattle.thresholds.specs.declared.Thresholds.{Thresholds}
use Rattle.thresholds.specs.Threshold.{tenths_within}
use Rattle.rule_table.specs.Table.{pair_at, szx_in01, san_szx_in01}
use Rattle.answers.specs.Refusal.{plain_verdict}
use Rattle.answers.specs.Answer.{answer_to}
use Rattle.recognisers.specs.Call.{plain_answer}

pub record SameDojis (k : ℕ) : Type 0 where
  pub within : tenths_within (10 * k) ≡ true
  pub doji : (b : Bar) → doji_of (whole_of (10 * k)) b ≡ doji_above (whole_of k) b
  pub pair-13 : (t : Thresholds) (len : ℕ) (history : List Bar) (di : ℕ) → t.th13 ≡ 10 * k → pair_at 13 t len history di ≡ szx_in01 k len history di
  pub pair-14 : (t : Thresholds) (len : ℕ) (history : List Bar) (di : ℕ) → t.th14 ≡ 10 * k → pair_at 14 t len history di ≡ san_szx_in01 k len history di
  pub call-13 : (t : Thresholds) (whole : Bool) (history : List Bar) (di : ℕ) → t.th13 ≡ 10 * k → let len = length history in
      plain_answer 13 di t whole history ≡ answer_to (plain_verdict 13 di t whole len) (Ok (szx_in01 k len history di))
  pub call-14 : (t : Thresholds) (whole : Bool) (history : List Bar) (di : ℕ) → t.th14 ≡ 10 * k → let len = length history in
      plain_answer 14 di t whole history ≡ answer_to (plain_verdict 14 di t whole len) (Ok (san_szx_in01 k len history di))
