-- Which bytes are a run, and what a run's fault is called.
use Rattle.std.specs.Prelude.{◌≡◌, ℕ, zero, suc, ◌+◌, ◌/◌, ◌%◌, ◌<◌, Bool, cond, List, [], ◌∷◌, ◌++◌, length, Some, None, Option, ◌==◌}
use Rattle.records.specs.Content.{Mutation, deletion, entry}
use Rattle.layout.specs.declared.fault.RecordFault.{RecordFault}
use Rattle.layout.specs.declared.fault.Reason.TheVariants as reason
use Rattle.layout.specs.declared.fault.Layer.TheVariants as layer
use Rattle.layout.specs.declared.fault.Refusal.{Refusal}
use Rattle.layout.specs.Faults.{refusal_of}
use Rattle.layout.specs.Layout.{fault_of}
use Rattle.layout.specs.Pieces.{piece, mutation_at}
use Rattle.canon.specs.Run.{all, ascends, is_run}
use Rattle.runs.specs.declared.fault.RunFault.{RunFault}
use Rattle.runs.specs.declared.fault.RunFault.TheVariants.{Length, Record, Order, Empty}
use Rattle.runs.specs.declared.fault.Disorder.{Disorder}
use Rattle.runs.specs.declared.fault.Disorder.TheVariants.{Unsorted, Spans, Covered}
use Rattle.runs.specs.Records.{records_to}

-- why a record that comes after all of those before it is out of order all the same
abbrev pub clash_of : Mutation → Disorder
clash_of (deletion s a b t) = Spans
clash_of (entry s p f c) = Covered

-- why a record may not follow these
unfoldable pub disorder : List Mutation → Mutation → Disorder
disorder xs m = cond (all (λ x. ascends x m) xs) (clash_of m) Unsorted

-- why a well-formed record may not follow these, if it may not
abbrev pub order_fault : List Mutation → Mutation → Option RunFault
order_fault xs m = cond (is_run (xs ++ m ∷ [])) None (Some (Order (length xs) (disorder xs m)))

-- a malformed record's fault; else whether the records up to it, with it, form a run
abbrev pub fault_by : ℕ → Disorder → Option RecordFault → Bool → Option RunFault
fault_by i why (Some f) run = Some (Record (record { index = i; fault = f }))
fault_by i why None run = cond run None (Some (Order i why))

-- the fault of the i-th record
unfoldable pub fault_at : List ℕ → ℕ → Option RunFault
fault_at bs i = fault_by i (disorder (records_to bs i) (mutation_at bs i)) (fault_of (piece bs i)) (is_run (records_to bs (i + 1)))

abbrev pub or_else : {A : Type 0} → Option A → Option A → Option A
or_else None b = b
or_else (Some x) b = Some x

-- the first of n that there is
unfoldable pub earliest : {A : Type 0} → (ℕ → Option A) → ℕ → Option A
earliest f zero = None
earliest f (suc n) = or_else (earliest f n) (f n)

-- why bytes are no run: the first faulty record decides
unfoldable pub run_fault : List ℕ → Option RunFault
run_fault bs = cond (length bs % 48 == 0) (earliest (fault_at bs) (length bs / 48)) (Some Length)

-- 1 length, 3 order and 4 empty of layer 2; a record's own number, layer and byte, with its index
abbrev pub refusal_of_run : RunFault → Refusal
refusal_of_run Length = record { number = reason.Length; layer = layer.Run; index = 0; byte = 0 }
refusal_of_run (Record f) = record { number = (refusal_of f.fault).number; layer = (refusal_of f.fault).layer; index = f.index; byte = (refusal_of f.fault).byte }
refusal_of_run (Order i why) = record { number = reason.Order; layer = layer.Run; index = i; byte = 0 }
refusal_of_run Empty = record { number = reason.Empty; layer = layer.Run; index = 0; byte = 0 }

-- none of the first n records has a fault of its own
pub record LawfulTo (bs : List ℕ) (n : ℕ) : Type 0 where
  pub each : (k : ℕ) → k < n → fault_of (piece bs k) ≡ None
