-- What a run's fault, or its absence, says of the bytes.
use Rattle.std.proofs.Common.{◌≡◌, ℕ, ◌+◌, ◌/◌, ◌%◌, ◌<◌, Bool, true, false, cond, eqb, List, length, Some, None, Option, sym, refl, ap, ◌∙◌, subst, arith}
use Rattle.std.proofs.lemmas.Bool.Decides.{nat_tests}
use Rattle.std.proofs.ByRecursion.{All-from_get_or}
use Rattle.std.specs.List.{All}
use Rattle.records.specs.Ranges.{in_range}
use Rattle.layout.specs.declared.fault.RecordFault.{RecordFault}
use Rattle.layout.specs.Layout.{fault_of}
use Rattle.layout.specs.Pieces.{piece, mutation_at}
use Rattle.canon.specs.Run.{is_run, IsRun, InRange}
use Rattle.canon.proofs.Pairs.{all_holds}
use Rattle.runs.specs.declared.fault.RunFault.{RunFault}
use Rattle.runs.specs.declared.fault.RunFault.TheVariants.{Length, Record, Order}
use Rattle.runs.specs.declared.fault.Disorder.{Disorder}
use Rattle.runs.specs.Records.{records_to, records_in}
use Rattle.runs.specs.Faults.{LawfulTo, disorder, fault_by, fault_at, earliest, run_fault}
use Rattle.runs.specs.RunBytes.{RunBytes, FaultFrom, FaultOfRun}
use Rattle.runs.specs.declared.view.RecordView.{RecordView}
use Rattle.runs.specs.Opened.{ViewAt}
use Rattle.runs.proofs.Pieces.{mutation_is, lawful_range, records_long, records_at}
use Rattle.runs.proofs.Faults.{first_found, run_so_far, lawful_so_far}
use Rattle.runs.proofs.Again.{run_again}

-- the first n records are in range
ranged_so_far : (bs : List ℕ) (n : ℕ) → LawfulTo bs n → InRange (records_to bs n)
ranged_so_far bs n h =
    all_holds in_range (λ x. in_range x ≡ true) (λ x i. i) (records_to bs n)
    (All-from_get_or (λ x. in_range x ≡ true) (records_to bs n) (mutation_at bs 0)
    (λ k l. let m : k < n = omega (arith, records_long bs n) in subst (λ x. in_range x ≡ true) (sym (records_at bs n k (mutation_at bs 0) m)) (lawful_range bs k (h.each k m))))

-- by its length
module _ (bs : List ℕ) (o : Option RunFault) (e : run_fault bs ≡ o) where
  unfolding-fault : cond (eqb (length bs % 48) 0) (earliest (fault_at bs) (length bs / 48)) (Some Length) ≡ o
  unfolding run_fault
  unfolding-fault = e

  -- a fault of the length
  long : eqb (length bs % 48) 0 ≡ false → Some Length ≡ o
  long h = ap (λ b. cond b (earliest (fault_at bs) (length bs / 48)) (Some Length)) (sym h) ∙ unfolding-fault

  -- or of a record
  first : eqb (length bs % 48) 0 ≡ true → earliest (fault_at bs) (length bs / 48) ≡ o
  first h = ap (λ b. cond b (earliest (fault_at bs) (length bs / 48)) (Some Length)) (sym h) ∙ unfolding-fault

-- whole records, well-formed and in order
pub run_of_bytes : (bs : List ℕ) → All (λ b. b < 256) bs → length bs % 48 ≡ 0 → LawfulTo bs (length bs / 48) → IsRun (records_in bs) → RunBytes bs
run_of_bytes bs u whole lawful run =
    let ranged = ranged_so_far bs (length bs / 48) lawful in
    record { whole = whole; lawful = lawful; ranged = ranged; run = run; bytes = run_again bs u whole lawful ranged run }

pub run_bytes_lem : (bs : List ℕ) → All (λ b. b < 256) bs → run_fault bs ≡ None → RunBytes bs
run_bytes_lem bs u e = go (eqb (length bs % 48) 0) refl
  where
    go : (b : Bool) → eqb (length bs % 48) 0 ≡ b → RunBytes bs
    go false h = absurd (let k = long bs None e h in cc)
    go true h =
        let f = first bs None e h in
        run_of_bytes bs u (grind (arith, nat_tests)) (lawful_so_far bs (length bs / 48) f) (run_so_far bs (length bs / 48) f)

-- bytes that are not whole records
pub length_fault : (bs : List ℕ) → (length bs % 48 ≡ 0 → ⊥) → run_fault bs ≡ Some Length
unfolding run_fault
length_fault bs n = let t : eqb (length bs % 48) 0 ≡ false = grind (arith, nat_tests) in ap (λ b. cond b (earliest (fault_at bs) (length bs / 48)) (Some Length)) t

by_some : (bs : List ℕ) (i : ℕ) (why : Disorder) (f : Option RecordFault) (run : Bool) (x : RunFault) → FaultFrom bs i → fault_of (piece bs i) ≡ f → is_run (records_to bs (i + 1)) ≡ run → fault_by i why f run ≡ Some x → FaultOfRun bs x
by_some bs i why (Some g) run x from e k h = let is : Record (record { index = i; fault = g }) ≡ x = cc in subst (FaultOfRun bs) is (from, e)
by_some bs i why None true x from e k h = cc
by_some bs i why None false x from e k h =
    let is : Order i why ≡ x = cc in
    subst (FaultOfRun bs) is (from, e, λ t. cc)

found_at : (bs : List ℕ) (i : ℕ) (x : RunFault) → FaultFrom bs i → fault_at bs i ≡ Some x → FaultOfRun bs x
unfolding fault_at
found_at bs i x from h = by_some bs i (disorder (records_to bs i) (mutation_at bs i)) (fault_of (piece bs i)) (is_run (records_to bs (i + 1))) x from refl refl h

pub fault_found : (bs : List ℕ) (x : RunFault) → run_fault bs ≡ Some x → FaultOfRun bs x
fault_found bs x e = go (eqb (length bs % 48) 0) refl
  where
    go : (b : Bool) → eqb (length bs % 48) 0 ≡ b → FaultOfRun bs x
    go false h =
        let k = long bs (Some x) e h in
        let is : Length ≡ x = cc in
        subst (FaultOfRun bs) is (λ z. grind (arith, nat_tests))
    go true h =
        let (i, l, none, some) = first_found (fault_at bs) (length bs / 48) x (first bs (Some x) e h) in
        found_at bs i x (record { whole = grind (arith, nat_tests); within = l; lawful = lawful_so_far bs i none; run = run_so_far bs i none }) some

-- a record where it lies
pub view_at : (bs : List ℕ) (i : ℕ) (v : RecordView) → i < length bs / 48 → v.bytes.now ≡ piece bs i → v.index ≡ i → ViewAt bs i v
view_at bs i v l e p = record { within = l; part = e; place = p; lawful = v.lawful; says = mutation_is bs i v.bytes.now e }
