-- Bytes and the bars that they stand for: a history's bars are those of its runs of 32 bytes. Assumes nothing.
use Rattle.std.proofs.Common.{ℕ, zero, suc, ◌+◌, ◌-◌, ◌*◌, ◌/◌, ◌<◌, ◌≤◌, ◌≡◌, List, [], ◌∷◌, map, length, get_or, take, drop, refl, ap, ◌∙◌, arith, drop-drop}
use Rattle.std.proofs.lemmas.List.{drop-take, take-take}
use Rattle.std.specs.Int.{w64, from_le_bytes}
use Rattle.std.specs.Simd.{first_chunks}
use Rattle.measures.specs.Bar.{Bar, bar_of, bars_of}
use Rattle.recognisers.specs.Export.{bar_bytes, little_endian, price_at, bar_at, prices_at, decoded_prices}

-- the number of eight bytes is the library's
pub eight : (s : List ℕ) → little_endian (take 8 s) ≡ from_le_bytes w64 s
unfolding little_endian
eight [] = refl
eight (a ∷ []) = omega arith
eight (a ∷ b ∷ []) = omega arith
eight (a ∷ b ∷ c ∷ []) = omega arith
eight (a ∷ b ∷ c ∷ d ∷ []) = omega arith
eight (a ∷ b ∷ c ∷ d ∷ e ∷ []) = omega arith
eight (a ∷ b ∷ c ∷ d ∷ e ∷ f ∷ []) = omega arith
eight (a ∷ b ∷ c ∷ d ∷ e ∷ f ∷ g ∷ []) = omega arith
eight (a ∷ b ∷ c ∷ d ∷ e ∷ f ∷ g ∷ h ∷ s) = omega arith

-- a price of a part is that of the whole
pub price-within : (s : List ℕ) (at n k : ℕ) → k + 8 ≤ n → price_at (take n (drop at s)) k ≡ price_at s (at + k)
unfolding price_at
price-within s at n k h =
    let e : n ≡ k + (n - k) = omega arith in
    rw (e, drop-take k (n - k) (drop at s), take-take 8 (n - k) (drop k (drop at s)) (omega arith), drop-drop k at s)

-- the prices of a bar's bytes, cut into eights
pub price-cut : (s : List ℕ) (n i : ℕ) → i < n → price_at (get_or (first_chunks 8 n s) i []) 0 ≡ price_at s (8 * i)
unfolding price_at
price-cut s zero i h = absurd (let z : ⊥ = omega arith in z)
price-cut s (suc n) zero h = price-within s 0 8 0 (omega arith)
price-cut s (suc n) (suc i) h =
    let e : 8 + 8 * i ≡ 8 * suc i = omega arith in
    price-cut (drop 8 s) n i (omega arith) ∙ rw (drop-drop (8 * i) 8 s, e)

bar-within : (s : List ℕ) (at : ℕ) → bar_at (take bar_bytes (drop at s)) 0 ≡ bar_at s at
bar-within s at =
    let e : at + 0 ≡ at = omega arith in
    rw (price-within s at bar_bytes 0 (omega arith), price-within s at bar_bytes 8 (omega arith), price-within s at bar_bytes 16 (omega arith), price-within s at bar_bytes 24 (omega arith), e)

-- four prices more are a bar more
prices-four : (s : List ℕ) (at n p q r t : ℕ) → at + 8 ≡ p → p + 8 ≡ q → q + 8 ≡ r → r + 8 ≡ t
    → bars_of (prices_at s at (suc (suc (suc (suc n))))) ≡ bar_of (price_at s at) (price_at s p) (price_at s q) (price_at s r) ∷ bars_of (prices_at s t n)
unfolding prices_at bars_of
prices-four s at n p q r t e f g h = rw (← h, ← g, ← f, ← e) refl

-- the bars of n prices from a place on
bars-from : (s : List ℕ) (at n : ℕ) → map (λ (b : List ℕ). bar_at b 0) (first_chunks bar_bytes (n / 4) (drop at s)) ≡ bars_of (prices_at s at n)
unfolding prices_at bars_of
bars-from s at zero = refl
bars-from s at (suc zero) = refl
bars-from s at (suc (suc zero)) = refl
bars-from s at (suc (suc (suc zero))) = refl
bars-from s at (suc (suc (suc (suc n)))) =
    let e : suc (suc (suc (suc n))) / 4 ≡ suc (n / 4) = omega arith in
    let more = prices-four s at n (at + 8) (at + 16) (at + 24) (at + 32) refl (omega arith) (omega arith) (omega arith) in
    rw (more, e, bar-within s at, drop-drop bar_bytes at s) (ap (λ (bs : List Bar). bar_at s at ∷ bs) (bars-from s (at + bar_bytes) n))

-- a history's bars, by its bytes
pub history-bars : (s : List ℕ) → map (λ (b : List ℕ). bar_at b 0) (first_chunks bar_bytes (length s / bar_bytes) s) ≡ bars_of (decoded_prices s)
unfolding decoded_prices
history-bars s =
    let e : length s / bar_bytes ≡ length s / 8 / 4 = omega arith in
    rw e (bars-from s 0 (length s / 8))
