use Rattle.std.proofs.Common.{◌≡◌, ℕ, zero, suc, ◌-◌, true, List, [], ◌∷◌, ◌++◌, length, take, drop, replicate, refl, ap, ◌∙◌, arith}
use Rattle.std.proofs.lemmas.Bool.Decides.{nat_tests}
use Rattle.std.proofs.lemmas.List.{take_at, drop_at, drop-replicate}
use Rattle.records.specs.Zeros.{all_zero}

-- bytes that are all 0 are so many zeros
pub zeros_are : (xs : List ℕ) (n : ℕ) → length xs ≡ n → all_zero xs ≡ true → xs ≡ replicate n 0
zeros_are [] zero l z = refl
zeros_are [] (suc n) l z = absurd (omega arith)
zeros_are (x ∷ xs) zero l z = absurd (omega arith)
zeros_are (x ∷ xs) (suc n) l z =
    let e : x ≡ 0 = grind (arith, nat_tests) in
    let r : all_zero xs ≡ true = grind (arith, nat_tests) in
    let t : xs ≡ replicate n 0 = zeros_are xs n (omega arith) r in
    rw (e, t)

pub zeros_zero : (n : ℕ) → all_zero (replicate n 0) ≡ true
zeros_zero zero = refl
zeros_zero (suc n) = zeros_zero n

-- bytes with zeros behind them
pub front_is : (x s z : List ℕ) → x ≡ s → take (length s) (x ++ z) ≡ s
front_is x s z e = ap (λ y. take (length s) (y ++ z)) e ∙ take_at s z (length s) refl

pub rest_is : (x s : List ℕ) (n : ℕ) → x ≡ s → all_zero (drop (length s) (x ++ drop (length s) (replicate n 0))) ≡ true
rest_is x s n e =
    ap (λ y. all_zero (drop (length s) (y ++ drop (length s) (replicate n 0)))) e
    ∙ ap all_zero (drop_at s (drop (length s) (replicate n 0)) (length s) refl ∙ drop-replicate {X = ℕ} (length s) n 0)
    ∙ zeros_zero (n - length s)
