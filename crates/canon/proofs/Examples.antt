-- The worked examples hold: what computes by itself, and the spans by the laws of runs.
use Rattle.std.proofs.Common.{◌≡◌, ℕ, Bool, true, false, cond, ◌&&◌, ◌||◌, eqb, leb, List, [], ◌∷◌, Some, None, sym, refl, ap, ◌∙◌, arith}
use Rattle.std.proofs.lemmas.Bool.Decides.{nat_tests}
use Rattle.records.specs.declared.tombstone.Tombstone.{Tombstone}
use Rattle.records.specs.Content.{Mutation, deletion, tombstone_key, version_key, later, one, content_of, empty}
use Rattle.reconcile.proofs.Joins.{same_content, join_swap}
use Rattle.canon.specs.Spans.{run_of}
use Rattle.canon.specs.Examples.{Holds, spanned, ExamplesHold}
use Rattle.canon.proofs.RunLaws.{run_laws}

abbrev older : Tombstone
older = record { stamp = 4; day = 1 }

abbrev newer : Tombstone
newer = record { stamp = 9; day = 2 }

-- over the plots of three stretches lies what lies over them all
over : (u v w : Bool) → later (cond u (Some older) None) (later (cond v (Some newer) None) (later (cond w (Some older) None) None)) ≡ later (cond (u || (v || w)) (Some older) None) (later (cond v (Some newer) None) None)
unfolding tombstone_key
over true true true = refl
over true true false = refl
over true false true = refl
over true false false = refl
over false true true = refl
over false true false = refl
over false false true = refl
over false false false = refl

abbrev wide : Mutation
wide = deletion 1 1 10 older

abbrev narrow : Mutation
narrow = deletion 1 5 6 newer

abbrev parts : List Mutation
parts = deletion 1 1 4 older ∷ narrow ∷ deletion 1 7 10 older ∷ []

parts_same : content_of parts ≡ content_of (wide ∷ narrow ∷ [])
parts_same = same_content (content_of parts) (content_of (wide ∷ narrow ∷ [])) covers (λ s p f. refl)
  where
    covers : (s p : ℕ) → (content_of parts).cover s p ≡ (content_of (wide ∷ narrow ∷ [])).cover s p
    covers s p =
        let on : (eqb s 1 && (leb 1 p && leb p 4) || (eqb s 1 && (leb 5 p && leb p 6) || eqb s 1 && (leb 7 p && leb p 10))) ≡ (eqb s 1 && (leb 1 p && leb p 10)) = grind (arith, nat_tests) in
        over (eqb s 1 && (leb 1 p && leb p 4)) (eqb s 1 && (leb 5 p && leb p 6)) (eqb s 1 && (leb 7 p && leb p 10))
        ∙ ap (λ v. later (cond v (Some older) None) ((content_of (narrow ∷ [])).cover s p)) on

spans_hold : Holds (spanned wide narrow parts)
spans_hold =
    let made : run_of (content_of parts) ≡ parts = run_laws.again parts refl refl in
    let here : run_of (content_of (wide ∷ narrow ∷ [])) ≡ parts = ap run_of (sym parts_same) ∙ made in
    (here, ap run_of (join_swap (one narrow) (one wide) empty) ∙ here)

pub examples_hold : ExamplesHold
unfolding tombstone_key version_key
examples_hold = ((refl, refl), ((refl, refl), ((refl, refl), ((refl, refl), ((refl, refl), (spans_hold, tt))))))
