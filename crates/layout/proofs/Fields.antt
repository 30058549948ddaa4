-- Numbers in fields of given widths: there and back.
use Rattle.std.proofs.Common.{◌≡◌, ℕ, ◌+◌, ◌*◌, ◌^◌, ◌<◌, ◌≤◌, List, [], ◌∷◌, ◌++◌, length, take, drop, sym, refl, ap, ◌∙◌, mod-eq_of_lt, arith}
use Rattle.std.specs.List.{All, AllZip}
use Rattle.std.proofs.lemmas.List.{take_at, drop_at, take-append-drop, length-drop, length-append, length-take-le, drop-drop, append_assoc}
use Rattle.std.proofs.lemmas.List.Elements.{All-take, All-drop}
use Rattle.layout.specs.Numbers.{digits, number_at, laid}
use Rattle.layout.proofs.Numbers.{be, be_digits, digits_be, length_digits, number_is}

-- the numbers that stand in fields of these widths
abbrev pub read : List ℕ → List ℕ → List ℕ
read [] bs = []
read (w ∷ ws) bs = be (take w bs) ∷ read ws (drop w bs)

abbrev pub Fitting : List ℕ → List ℕ → Type 0
Fitting ws xs = AllZip (λ w x. x < 2 ^ (8 * w)) ws xs

abbrev pub total : List ℕ → ℕ
total [] = 0
total (w ∷ ws) = w + total ws

-- the numbers by places
abbrev pub read_at : ℕ → List ℕ → List ℕ → List ℕ
read_at at [] bs = []
read_at at (w ∷ ws) bs = number_at at w bs ∷ read_at (at + w) ws bs

pub read_at_is : (ws : List ℕ) (at : ℕ) (bs : List ℕ) → at + total ws ≤ length bs → read_at at ws bs ≡ read ws (drop at bs)
read_at_is [] at bs h = refl
read_at_is (w ∷ ws) at bs h = rw (number_is w at bs (omega arith), read_at_is ws (at + w) bs (omega arith), drop-drop w at bs)

pub length-laid : (ws xs : List ℕ) → Fitting ws xs → length (laid ws xs) ≡ total ws
length-laid [] [] f = refl
length-laid (w ∷ ws) (x ∷ xs) f = length-append (digits w x) (laid ws xs) ∙ rw (length_digits w x, length-laid ws xs f.1)
length-laid [] (x ∷ xs) f = absurd f
length-laid (w ∷ ws) [] f = absurd f

-- what was written is read, with more behind it
pub read_laid_more : (ws xs v : List ℕ) → Fitting ws xs → read ws (laid ws xs ++ v) ≡ xs
read_laid_more [] [] v f = refl
read_laid_more (w ∷ ws) (x ∷ xs) v f =
    let l = length_digits w x in
    let e : be (digits w x) ≡ x = be_digits w x ∙ mod-eq_of_lt f.0 in
    rw (append_assoc (digits w x) (laid ws xs) v, take_at (digits w x) (laid ws xs ++ v) w l, drop_at (digits w x) (laid ws xs ++ v) w l, e, read_laid_more ws xs v f.1)
read_laid_more [] (x ∷ xs) v f = absurd f
read_laid_more (w ∷ ws) [] v f = absurd f

-- what was read is written
pub laid_read_more : (ws bs : List ℕ) → total ws ≤ length bs → All (λ b. b < 256) bs → laid ws (read ws bs) ++ drop (total ws) bs ≡ bs
laid_read_more [] bs l u = refl
laid_read_more (w ∷ ws) bs l u =
    let n : length (take w bs) ≡ w = length-take-le w bs (omega arith) in
    let h : digits w (be (take w bs)) ≡ take w bs = ap (λ k. digits k (be (take w bs))) (sym n) ∙ digits_be (take w bs) (All-take (λ b. b < 256) w bs u) in
    let ih : laid ws (read ws (drop w bs)) ++ drop (total ws) (drop w bs) ≡ drop w bs = laid_read_more ws (drop w bs) (simp length-drop (omega arith)) (All-drop (λ b. b < 256) w bs u) in
    append_assoc (digits w (be (take w bs))) (laid ws (read ws (drop w bs))) (drop (w + total ws) bs)
    ∙ ap (λ k. k ++ (laid ws (read ws (drop w bs)) ++ drop (w + total ws) bs)) h
    ∙ ap (λ k. take w bs ++ (laid ws (read ws (drop w bs)) ++ k)) (sym (drop-drop (total ws) w bs))
    ∙ ap (λ k. take w bs ++ k) ih
    ∙ take-append-drop w bs
