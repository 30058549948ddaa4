-- The check of bytes, record by record.
use Rattle.std.proofs.Common.{◌≡◌, ℕ, ◌+◌, ◌-◌, ◌*◌, ◌/◌, ◌%◌, ◌<◌, ◌≤◌, true, eqb, List, [], ◌∷◌, ◌++◌, length, get_or, take, Some, None, Option, sym, ap, ◌∙◌, subst, arith, cond}
use Rattle.std.proofs.lemmas.Bool.Decides.{nat_tests}
use Rattle.std.specs.List.{All}
use Rattle.std.specs.Simd.{first_chunks}
use Rattle.records.specs.Content.{Mutation}
use Rattle.std.proofs.lemmas.List.Elements.{All-take}
use Rattle.layout.specs.Layout.{row_at, mutation_in, fault_of}
use Rattle.layout.specs.Pieces.{piece, mutation_at}
use Rattle.canon.specs.Run.{is_run, IsRun}
use Rattle.canon.specs.Check.{Passed}
use Rattle.runs.specs.declared.fault.FaultAt.{FaultAt}
use Rattle.runs.specs.declared.fault.RunFault.{RunFault}
use Rattle.runs.specs.declared.fault.RunFault.TheVariants.{Length, Record, Order}
use Rattle.runs.specs.Records.{records_to, records_in}
use Rattle.runs.specs.Faults.{disorder, order_fault, fault_by, fault_at, earliest, run_fault}
use Rattle.runs.specs.RunBytes.{RunBytes}
use Rattle.runs.specs.Check.{PassedTo}
use Rattle.runs.proofs.Pieces.{piece_in, mutation_is, records_more, records_long, before_long, piece_before, mutation_before, records_before}
use Rattle.runs.proofs.Faults.{first_start, first_more, first_some, run_so_far, lawful_so_far}
use Rattle.runs.proofs.Opened.{run_of_bytes}

-- whole records, of which the first i have no fault, and of those before `over` none can cover what follows the last of them
pub record Checked (bs : List ℕ) (over i : ℕ) : Type 0 where
  pub whole : length bs % 48 ≡ 0
  pub reached : over ≤ i
  pub faultless : earliest (fault_at bs) i ≡ None
  pub behind : (k : ℕ) → k < over → Passed (mutation_at bs k) (mutation_at bs (i - 1))

pub checked_none : {bs : List ℕ} → length bs % 48 ≡ 0 → Checked bs 0 0
checked_none {bs = bs} e = record { whole = e; reached = omega arith; faultless = first_start (fault_at bs); behind = λ k l. absurd (omega arith) }

whole_fault : (bs : List ℕ) (o : Option RunFault) → length bs % 48 ≡ 0 → earliest (fault_at bs) (length bs / 48) ≡ o → run_fault bs ≡ o
unfolding run_fault
whole_fault bs o e h = let t : eqb (length bs % 48) 0 ≡ true = grind (arith, nat_tests) in ap (λ b. cond b (earliest (fault_at bs) (length bs / 48)) (Some Length)) t ∙ h

pub checked_all : {bs : List ℕ} {over i : ℕ} → Checked bs over i → i ≡ length bs / 48 → run_fault bs ≡ None
checked_all {bs = bs} h n = whole_fault bs None h.whole (subst (λ k. earliest (fault_at bs) k ≡ None) n h.faultless)

module _ {bs : List ℕ} {over i : ℕ} (checked : Checked bs over i) (more : i < length bs / 48) where
  stops : (f : RunFault) → fault_at bs i ≡ Some f → run_fault bs ≡ Some f
  stops f h = whole_fault bs (Some f) checked.whole (first_some (fault_at bs) f i (length bs / 48) checked.faultless h more)

  -- the i-th 48 bytes, cut out
  abbrev part : List (List ℕ) → List ℕ
  part ps = get_or ps i []

  cut : (ps : List (List ℕ)) → ps ≡ first_chunks 48 (length bs / 48) bs → part ps ≡ piece bs i
  cut ps e = ap part e ∙ piece_in bs (length bs / 48) i [] more

  -- they are malformed
  pub stops_malformed : {ps : List (List ℕ)} → ps ≡ first_chunks 48 (length bs / 48) bs → (e : FaultAt) → e.index ≡ i → fault_of (part ps) ≡ Some e.fault → run_fault bs ≡ Some (Record e)
  unfolding fault_at
  stops_malformed {ps = ps} p e k h =
      stops (Record (record { index = i; fault = e.fault })) (ap (λ o. fault_by i (disorder (records_to bs i) (mutation_at bs i)) o (is_run (records_to bs (i + 1)))) (ap fault_of (sym (cut ps p)) ∙ h))
      ∙ (λ n. Some (Record (record { index = sym k n; fault = e.fault })))

  -- ---- the bytes before the i-th

  length_before : length (take (48 * i) bs) / 48 ≡ i
  length_before = omega (arith, before_long bs i (omega arith))

  pub run_before : All (λ b. b < 256) bs → RunBytes (take (48 * i) bs)
  run_before u =
      run_of_bytes (take (48 * i) bs) (All-take (λ b. b < 256) (48 * i) bs u) (omega (arith, before_long bs i (omega arith)))
      (record { each = λ k l. ap fault_of (piece_before bs i (omega arith) k (omega (arith, length_before))) ∙ (lawful_so_far bs i checked.faultless).each k (omega (arith, length_before)) })
      (subst IsRun (sym (records_before bs i (omega arith))) (run_so_far bs i checked.faultless))

  pub passed_before : PassedTo (take (48 * i) bs) over (mutation_at (take (48 * i) bs) (length (take (48 * i) bs) / 48 - 1))
  passed_before = record { within = omega (arith, length_before, checked.reached); each = λ k l. subst (λ m. Passed (mutation_at (take (48 * i) bs) k) m) (sym (last k l)) (subst (λ m. Passed m (mutation_at bs (i - 1))) (sym (mutation_before bs i (omega arith) k (omega (arith, checked.reached)))) (checked.behind k l)) }
    where
      last : (k : ℕ) → k < over → mutation_at (take (48 * i) bs) (length (take (48 * i) bs) / 48 - 1) ≡ mutation_at bs (i - 1)
      last k l = ap (λ n. mutation_at (take (48 * i) bs) (n - 1)) length_before ∙ mutation_before bs i (omega arith) (i - 1) (omega (arith, checked.reached))

  -- ---- the i-th itself, well-formed: the record m

  module _ {ps : List (List ℕ)} (p : ps ≡ first_chunks 48 (length bs / 48) bs) {m : Mutation} (well : fault_of (part ps) ≡ None) (is : m ≡ mutation_in (row_at (part ps))) where
    here : m ≡ mutation_at bs i
    here = is ∙ mutation_is bs i (part ps) (cut ps p)

    -- its fault is what keeps it from following those before it
    fault_seen : fault_at bs i ≡ order_fault (records_in (take (48 * i) bs)) m
    unfolding fault_at
    fault_seen =
        (λ n. fault_by i (disorder (records_to bs i) (mutation_at bs i)) ((ap fault_of (sym (cut ps p)) ∙ well) n) (is_run (records_more bs i n)))
        ∙ (λ n. cond (is_run (records_to bs i ++ mutation_at bs i ∷ [])) None (Some (Order (sym (records_long bs i) n) (disorder (records_to bs i) (mutation_at bs i)))))
        ∙ (λ n. order_fault (sym (records_before bs i (omega arith)) n) (sym here n))

    pub stops_disordered : (f : RunFault) → Some f ≡ order_fault (records_in (take (48 * i) bs)) m → run_fault bs ≡ Some f
    stops_disordered f h = stops f (fault_seen ∙ sym h)

    pub checked_more : (to : ℕ) → None ≡ order_fault (records_in (take (48 * i) bs)) m → PassedTo (take (48 * i) bs) to m → Checked bs to (i + 1)
    checked_more to h q =
        let e : i ≡ i + 1 - 1 = omega arith in
        record {
          whole = checked.whole;
          reached = omega (arith, q.within, length_before);
          faultless = first_more (fault_at bs) i checked.faultless (fault_seen ∙ sym h);
          behind = λ k l. subst (λ j. Passed (mutation_at bs k) (mutation_at bs j)) e (subst (Passed (mutation_at bs k)) here (subst (λ x. Passed x m) (mutation_before bs i (omega arith) k (omega (arith, q.within, length_before))) (q.each k l)));
        }
