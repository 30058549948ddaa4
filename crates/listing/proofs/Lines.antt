-- The lines of a file, and the records among them.
use Rattle.std.proofs.Common.{◌≡◌, ℕ, zero, suc, ◌+◌, ◌*◌, ◌/◌, ◌<◌, min, List, [], ◌∷◌, ◌++◌, map, length, take, drop, Ok, Err, Result, sym, refl, ap, subst, ◌∙◌, arith}
use Rattle.std.specs.List.{filter_map, range_with_len}
use Rattle.std.specs.Result.{result_ok}
use Rattle.std.specs.Slice.Iter.{chunks_rest, chunks_size, chunks_steps}
use Rattle.std.proofs.lemmas.List.{length-append, drop-drop, take_min, drop_min, take_at, drop_at}
use Rattle.std.proofs.lemmas.Iterator.{YieldsList}
use Rattle.std.proofs.lemmas.Iterator.Splits.{YieldsList-from_shown_while}
use Rattle.records.specs.declared.record.Record.{Record}
use Rattle.records.specs.Meaning.{says}
use Rattle.layout.specs.declared.fault.RecordFault.{RecordFault}
use Rattle.layout.specs.Layout.{outcome}
use Rattle.layout.specs.Pieces.{piece}
use Rattle.listing.specs.Lines.{pieces, well_formed}

-- the pieces behind the first n bytes
module _ (bs t : List ℕ) (e : drop 48 bs ≡ t) where
  piece_behind : (i : ℕ) → piece bs (i + 1) ≡ piece t i
  unfolding piece
  piece_behind i = let k : 48 * (i + 1) ≡ 48 + 48 * i = omega arith in ap (take 48) (ap (λ j. drop j bs) k ∙ sym (drop-drop (48 * i) 48 bs) ∙ ap (drop (48 * i)) e)

  pieces_behind : (a n : ℕ) → map (piece bs) (range_with_len (a + 1) n) ≡ map (piece t) (range_with_len a n)
  pieces_behind a zero = refl
  pieces_behind a (suc n) = rw (piece_behind a, pieces_behind (a + 1) n)

-- the first piece, and those of what is left
pieces_front : (bs x t : List ℕ) → bs ≡ x ++ t → length x ≡ min 48 (length bs) → 0 < length bs → pieces bs ≡ x ∷ pieces t
unfolding piece
pieces_front bs x t e n l =
    let m : (length bs + 47) / 48 ≡ suc ((length t + 47) / 48) = omega (arith, ap length e, length-append x t) in
    let front : piece bs 0 ≡ x = sym (take_min 48 bs) ∙ ap (λ k. take k bs) (sym n) ∙ ap (take (length x)) e ∙ take_at x t (length x) refl in
    let behind : drop 48 bs ≡ t = sym (drop_min 48 bs) ∙ ap (λ k. drop k bs) (sym n) ∙ ap (drop (length x)) e ∙ drop_at x t (length x) refl in
    rw (m, front, pieces_behind bs t behind 0 ((length t + 47) / 48))

pub pieces_in_chunks : (s : _) (bs : List ℕ) → chunks_rest s ≡ bs → chunks_size s ≡ 48 → YieldsList chunks_steps (λ x. x.now) s (pieces bs)
pieces_in_chunks s bs e h =
    subst (λ (xs : List ℕ). YieldsList chunks_steps (λ x. x.now) s (pieces xs)) e
    (YieldsList-from_shown_while chunks_steps (λ x. x.now) (λ r. pieces (chunks_rest r)) (λ r. chunks_size r ≡ 48)
    (λ r t k g. let z : (length (chunks_rest r) + 47) / 48 ≡ 0 = omega (arith, g.1.0) in rw z refl)
    (λ r x t k g. (g.0 ∙ k, pieces_front (chunks_rest r) x.now (chunks_rest t) g.1.0 (g.1.1 ∙ ap (λ n. min n (length (chunks_rest r))) k) g.1.2))
    s h)

pub records_among : (ls : List (Result Record RecordFault)) → map says (filter_map result_ok ls) ≡ well_formed (map outcome ls)
records_among [] = refl
records_among (Ok r ∷ ls) = ap (λ ms. says r ∷ ms) (records_among ls)
records_among (Err f ∷ ls) = records_among ls
