-- The laws of runs hold.
use Rattle.std.proofs.Common.{◌≡◌, List}
use Rattle.records.specs.Content.{Mutation, content_of}
use Rattle.canon.specs.Run.{IsRun, RunOf, InRange}
use Rattle.canon.specs.Spans.{run_of}
use Rattle.canon.specs.Laws.{RunLaws}
use Rattle.canon.proofs.Pairs.{run_says, run_holds, ranges_proper}
use Rattle.canon.proofs.Runs.{one_span, one_run}
use Rattle.canon.proofs.Canon.{run_canonical, canonical_run}
use Rattle.canon.proofs.RunOf.{sound_content, run_of_lem, run_in_range}

made : (ms : List Mutation) → InRange ms → RunOf (content_of ms) (run_of (content_of ms))
made ms h = run_of_lem (content_of ms) (sound_content ms h)

ranged : (ms : List Mutation) → InRange ms → InRange (run_of (content_of ms))
ranged ms h = run_in_range (content_of ms) (sound_content ms h)

one : (xs ys : List Mutation) → InRange xs → InRange ys → IsRun xs → IsRun ys → content_of xs ≡ content_of ys → xs ≡ ys
one xs ys g g' h h' e = one_run xs ys (ranges_proper xs g) (ranges_proper ys g') (run_says xs h) (run_says ys h') e

again : (xs : List Mutation) → InRange xs → IsRun xs → run_of (content_of xs) ≡ xs
again xs g h = let k = made xs g in one (run_of (content_of xs)) xs (ranged xs g) g k.run h k.same

pub run_laws : RunLaws
run_laws = record {
  made = made;
  ranged = ranged;
  one = one;
  canonical = λ xs g h. run_canonical xs (ranges_proper xs g) (run_says xs h);
  run = λ xs h. run_holds xs (canonical_run xs h);
  again = again;
  span = one_span;
}
