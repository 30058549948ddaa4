-- The numbers from 1 on that pass a test.
use Rattle.std.proofs.Common.{◌≡◌, ℕ, zero, suc, ◌+◌, ◌-◌, ◌<◌, ◌≤◌, Bool, true, false, cond, [], ◌∷◌, ◌++◌, length, sym, refl, ap, ◌∙◌, arith}
use Rattle.std.proofs.lemmas.List.{append-nil, length-append}
use Rattle.records.specs.Listed.{passing}

module _ (test : ℕ → Bool) where
  pub passing_none : passing test 0 ≡ []
  unfolding passing
  passing_none = refl

  pub passing_more : (n : ℕ) → passing test (n + 1) ≡ passing test n ++ cond (test (n + 1)) ((n + 1) ∷ []) []
  unfolding passing
  passing_more n = let e : n + 1 ≡ suc n = omega arith in rw e

  passing_fails : (n : ℕ) → test (n + 1) ≡ false → passing test (n + 1) ≡ passing test n
  passing_fails n h = passing_more n ∙ ap (λ b. passing test n ++ cond b ((n + 1) ∷ []) []) h ∙ append-nil (passing test n)

  skip : (m d : ℕ) → ((k : ℕ) → m < k → k ≤ m + d → test k ≡ false) → passing test (m + d) ≡ passing test m
  skip m zero h = let e : m + 0 ≡ m = omega arith in ap (passing test) e
  skip m (suc d) h =
      let e : m + suc d ≡ m + d + 1 = omega arith in
      ap (passing test) e
      ∙ passing_fails (m + d) (h (m + d + 1) (omega arith) (omega arith))
      ∙ skip m d (λ k a b. h k a (omega arith))

  -- none of the numbers above m and up to n passes
  pub passing_skip : (m n : ℕ) → m ≤ n → ((k : ℕ) → m < k → k ≤ n → test k ≡ false) → passing test n ≡ passing test m
  passing_skip m n l h =
      let e : n ≡ m + (n - m) = omega arith in
      ap (passing test) e ∙ skip m (n - m) (λ k a b. h k a (omega arith))

  -- none of the numbers above m and below q passes
  pub passing_next : (m q : ℕ) → m < q → ((k : ℕ) → m < k → k < q → test k ≡ false) → passing test q ≡ passing test m ++ cond (test q) (q ∷ []) []
  passing_next m q l h =
      let e : q ≡ q - 1 + 1 = omega arith in
      ap (passing test) e
      ∙ passing_more (q - 1)
      ∙ ap (λ xs. xs ++ cond (test (q - 1 + 1)) ((q - 1 + 1) ∷ []) []) (passing_skip m (q - 1) (omega arith) (λ k a b. h k a (omega arith)))
      ∙ ap (λ x. passing test m ++ cond (test x) (x ∷ []) []) (sym e)

  pub passing-empty : (n : ℕ) → ((k : ℕ) → 0 < k → k ≤ n → test k ≡ false) → passing test n ≡ []
  passing-empty n h = passing_skip 0 n (omega arith) h ∙ passing_none

  pub passing_few : (n : ℕ) → length (passing test n) ≤ n
  unfolding passing
  passing_few zero = omega arith
  passing_few (suc n) = go (test (suc n)) (passing_few n)
    where
      go : (b : Bool) → length (passing test n) ≤ n → length (passing test n ++ cond b (suc n ∷ []) []) ≤ suc n
      go true ih = rw (length-append (passing test n) (suc n ∷ [])) (omega arith)
      go false ih = rw (length-append (passing test n) []) (omega arith)
