-- The bytes of a run are those of its content.
use Rattle.std.proofs.Common.{◌≡◌, ℕ, zero, suc, ◌+◌, ◌*◌, ◌/◌, ◌%◌, ◌<◌, List, [], ◌++◌, length, take, drop, None, sym, ap, ◌∙◌, arith, take-add}
use Rattle.std.specs.List.{All, flat_map}
use Rattle.std.proofs.lemmas.List.Elements.{All-take, All-drop}
use Rattle.std.proofs.lemmas.List.{flat_map_more, take_all}
use Rattle.layout.specs.Layout.{fault_of, encoded}
use Rattle.layout.specs.Pieces.{piece, mutation_at}
use Rattle.layout.proofs.Trips.{encoded-decoded}
use Rattle.canon.specs.Run.{IsRun, InRange}
use Rattle.canon.proofs.RunLaws.{run_laws}
use Rattle.runs.specs.Records.{records_to, records_in, content_in, run_bytes}
use Rattle.runs.specs.Faults.{LawfulTo}
use Rattle.runs.proofs.Pieces.{records_none, records_more}

-- one record's bytes
piece-encoded : (bs : List ℕ) (i : ℕ) → All (λ b. b < 256) bs → fault_of (piece bs i) ≡ None → encoded (mutation_at bs i) ≡ piece bs i
unfolding piece mutation_at
piece-encoded bs i u e = encoded-decoded (take 48 (drop (48 * i) bs)) (All-take (λ b. b < 256) 48 (drop (48 * i) bs) (All-drop (λ b. b < 256) (48 * i) bs u)) e

take-piece : (bs : List ℕ) (n : ℕ) → take (48 * n) bs ++ piece bs n ≡ take (48 * suc n) bs
unfolding piece
take-piece bs n = let e : 48 * suc n ≡ 48 * n + 48 = omega arith in sym (ap (λ k. take k bs) e ∙ take-add (48 * n) 48 bs)

encoded_to : (bs : List ℕ) (n : ℕ) → All (λ b. b < 256) bs → LawfulTo bs n → flat_map encoded (records_to bs n) ≡ take (48 * n) bs
encoded_to bs zero u h = ap (flat_map encoded) (records_none bs)
encoded_to bs (suc n) u h =
    let e : suc n ≡ n + 1 = omega arith in
    ap (λ k. flat_map encoded (records_to bs k)) e
    ∙ ap (flat_map encoded) (records_more bs n)
    ∙ sym (flat_map_more encoded [] (records_to bs n) (mutation_at bs n))
    ∙ (λ i. encoded_to bs n u (record { each = λ k l. h.each k (omega arith) }) i ++ piece-encoded bs n u (h.each n (omega arith)) i)
    ∙ take-piece bs n

pub run_again : (bs : List ℕ) → All (λ b. b < 256) bs → length bs % 48 ≡ 0 → LawfulTo bs (length bs / 48) → InRange (records_in bs) → IsRun (records_in bs) → bs ≡ run_bytes (content_in bs)
unfolding run_bytes
run_again bs u whole lawful ranged run =
    sym (take_all (48 * (length bs / 48)) bs (omega arith))
    ∙ sym (encoded_to bs (length bs / 48) u lawful)
    ∙ ap (flat_map encoded) (sym (run_laws.again (records_in bs) ranged run))
