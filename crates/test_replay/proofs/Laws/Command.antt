-- Laws of what a line asks for: a line that begins as a form does is that form's bytes, or it is bad. Assumes nothing.
use Rattle.std.proofs.Common.{◌≡◌, ◌≢◌, ℕ, ◌+◌, ◌*◌, ◌≤◌, Bool, true, false, cond, eqb, Option, Some, None, List, [], ◌∷◌, length, get_or, drop, slice_range, refl, ap, ◌∙◌, arith, length-drop, take_all, eqb-true, eq-eqb, ne_eqb}
use Rattle.std.proofs.lemmas.Bool.{eqb-false}
use Rattle.std.proofs.lemmas.Slice.{between_to_end}
use Rattle.std.specs.Option.{option_map}
use Rattle.std.proofs.lemmas.Bool.Decides.{nat_tests}
use Rattle.recognisers.specs.Export.{bar_bytes}
use Rattle.test_replay.specs.Command.{thresholds_size, call_size, is_new, has_form, call_of, command_of}
use Rattle.test_replay.specs.Hex.{value_of, before, bytes_of, decoded, longest, payload_of}
use Rattle.test_replay.specs.Thresholds.{thresholds_of}
use Rattle.test_replay.specs.declared.command.Command.{Command, TheVariants.New, TheVariants.Bar, TheVariants.Thresholds}

length-before : (high low : Option ℕ) (bytes : List ℕ) → length (before high low bytes) ≤ length bytes + 1
length-before None low bytes = omega arith
length-before (Some high) None bytes = omega arith
length-before (Some high) (Some low) bytes = omega arith

half : (s : List ℕ) → 2 * length (bytes_of s) ≤ length s
unfolding bytes_of
half [] = omega arith
half (a ∷ []) = omega arith
half (a ∷ b ∷ s) = omega (arith, length-before (value_of a) (value_of b) (bytes_of s), half s)

module _ (line : List ℕ) (letter size : ℕ) where
  no-form : (2 ≤ length line → get_or line 1 0 ≡ 32 → get_or line 0 0 ≡ letter → ⊥) → has_form line letter size ≡ false
  unfolding has_form
  no-form h = grind (arith, nat_tests)

  module _ (small : size ≤ longest) (long : 2 ≤ length line) (space : get_or line 1 0 ≡ 32) (first : get_or line 0 0 ≡ letter) where
    payload-all : length (drop 2 line) ≡ 2 * size → payload_of line ≡ bytes_of (drop 2 line)
    unfolding payload_of
    payload-all e =
        let few : 2 * length (bytes_of (drop 2 line)) ≤ length (drop 2 line) = half (drop 2 line) in
        let fits : length (bytes_of (drop 2 line)) ≤ longest = omega arith in take_all longest (bytes_of (drop 2 line)) fits

    by_tests : (f : List ℕ → Command) (t u : Bool) → eqb (length (drop 2 line)) (2 * size) ≡ t → eqb (length (bytes_of (drop 2 line))) size ≡ u
        → option_map f (decoded size (drop 2 line)) ≡ cond (has_form line letter size) (Some (f (payload_of line))) None
    unfolding has_form decoded
    by_tests f true true et eu =
        let rest : length (drop 2 line) ≡ 2 * size = eqb-true _ _ et in
        let all : length line ≡ 2 + 2 * size = omega (arith, length-drop 2 line) in
        rw (payload-all rest, et, eq-eqb _ _ all, eq-eqb _ _ first, eq-eqb _ _ space, eu)
    by_tests f true false et eu =
        let rest : length (drop 2 line) ≡ 2 * size = eqb-true _ _ et in
        let all : length line ≡ 2 + 2 * size = omega (arith, length-drop 2 line) in
        rw (payload-all rest, et, eq-eqb _ _ all, eq-eqb _ _ first, eq-eqb _ _ space, eu)
    by_tests f false u et eu =
        let other : length line ≢ 2 + 2 * size = λ all. eqb-false _ _ et (omega (arith, length-drop 2 line)) in rw (et, ne_eqb _ _ other)

    form : (f : List ℕ → Command) (found : Option (List ℕ)) → found ≡ decoded size (slice_range line 2 (length line))
        → option_map f found ≡ cond (has_form line letter size) (Some (f (payload_of line))) None
    form f found e = ap (option_map f) (e ∙ ap (decoded size) (between_to_end line 2 (length line) (omega arith))) ∙ by_tests f _ _ refl refl

not-new : (line : List ℕ) → (length line ≡ 1 → get_or line 0 0 ≡ 110 → ⊥) → is_new line ≡ false
unfolding is_new
not-new line h = grind (arith, nat_tests)

module _ (line : List ℕ) where
  pub new-line : length line ≡ 1 → get_or line 0 0 ≡ 110 → Some New ≡ command_of line
  unfolding is_new command_of
  new-line one first = rw (eq-eqb _ _ one, eq-eqb _ _ first)

  pub bad-line : (length line ≡ 1 → get_or line 0 0 ≡ 110 → ⊥)
      → (2 ≤ length line → get_or line 1 0 ≡ 32 → get_or line 0 0 ≡ 98 → ⊥)
      → (2 ≤ length line → get_or line 1 0 ≡ 32 → get_or line 0 0 ≡ 116 → ⊥)
      → (2 ≤ length line → get_or line 1 0 ≡ 32 → get_or line 0 0 ≡ 99 → ⊥)
      → None ≡ command_of line
  unfolding command_of
  bad-line n b t c = rw (not-new line n, no-form line 98 bar_bytes b, no-form line 116 thresholds_size t, no-form line 99 call_size c)

  module _ (long : 2 ≤ length line) (space : get_or line 1 0 ≡ 32) where
    none-new : is_new line ≡ false
    none-new = not-new line (λ one first. omega arith)

    another : (letter size : ℕ) → get_or line 0 0 ≢ letter → has_form line letter size ≡ false
    another letter size h = no-form line letter size (λ long space first. h first)

    pub bar-line : get_or line 0 0 ≡ 98 → (found : Option (List ℕ)) → found ≡ decoded bar_bytes (slice_range line 2 (length line))
        → option_map Bar found ≡ command_of line
    unfolding command_of
    bar-line first found e = rw (none-new, another 116 thresholds_size (λ e. omega arith), another 99 call_size (λ e. omega arith))
        (form line 98 bar_bytes (omega arith) long space first Bar found e)

    pub thresholds-line : get_or line 0 0 ≡ 116 → (found : Option (List ℕ)) → found ≡ decoded thresholds_size (slice_range line 2 (length line))
        → option_map (λ payload. Thresholds (thresholds_of payload)) found ≡ command_of line
    unfolding command_of
    thresholds-line first found e = rw (none-new, another 98 bar_bytes (λ e. omega arith), another 99 call_size (λ e. omega arith))
        (form line 116 thresholds_size (omega arith) long space first (λ payload. Thresholds (thresholds_of payload)) found e)

    pub call-line : get_or line 0 0 ≡ 99 → (found : Option (List ℕ)) → found ≡ decoded call_size (slice_range line 2 (length line))
        → option_map call_of found ≡ command_of line
    unfolding command_of
    call-line first found e = rw (none-new, another 98 bar_bytes (λ e. omega arith), another 116 thresholds_size (λ e. omega arith))
        (form line 99 call_size (omega arith) long space first call_of found e)
