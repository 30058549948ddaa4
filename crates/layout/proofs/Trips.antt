-- Bytes and rows, rows and records: there and back.
use Rattle.std.proofs.Common.{◌≡◌, ℕ, ◌+◌, ◌-◌, ◌*◌, ◌<◌, Bool, true, false, eqb, List, [], ◌∷◌, ◌++◌, length, get_or, take, drop, replicate, None, Ok, Err, Result, sym, refl, ap, ◌∙◌, arith}
use Rattle.std.specs.List.{All}
use Rattle.std.proofs.lemmas.Bool.Decides.{nat_tests}
use Rattle.std.proofs.lemmas.List.{drop_at, length-append, length-take-le, length-drop, take-append-drop}
use Rattle.records.specs.Ranges.{in_range}
use Rattle.records.specs.Content.{Mutation}
use Rattle.records.specs.Meaning.{says}
use Rattle.records.specs.declared.record.Record.{Record}
use Rattle.records.proofs.Zeros.{zeros_are}
use Rattle.records.proofs.Says.{says_known}
use Rattle.layout.specs.declared.row.Row.{Row}
use Rattle.layout.specs.declared.fault.RecordFault.{RecordFault}
use Rattle.layout.specs.Numbers.{number_at, laid}
use Rattle.layout.specs.Layout.{row_at, widths, numbers, row_bytes, rules, first_broken, fault_of, mutation_in, row_of, encoded, outcome, IsRowOf}
use Rattle.layout.proofs.Fields.{read_at, read_at_is, Fitting, read_laid_more, laid_read_more, length-laid}
use Rattle.layout.proofs.Lawful.{kind_low, len_high, padded, no_value, one_plot, no_field, row_range}

-- bytes, a row, bytes
pub bytes_back : (bs : List ℕ) → length bs ≡ 48 → All (λ b. b < 256) bs → row_bytes (row_at bs) ≡ bs
bytes_back bs l u =
    let one : (x : ℕ) → x ≡ x * 1 + 0 = λ x. omega arith in
    let n : numbers (row_at bs) ≡ read_at 0 widths bs =
    λ i. one (get_or bs 0 0) i ∷ one (get_or bs 1 0) i ∷ number_at 2 2 bs ∷ number_at 4 4 bs ∷ number_at 8 4 bs ∷ number_at 12 8 bs ∷ number_at 20 4 bs ∷ one (get_or bs 24 0) i ∷ [] in
    ap (λ ns. laid widths ns ++ drop 25 bs) (n ∙ read_at_is widths 0 bs (omega arith)) ∙ laid_read_more widths bs (omega arith) u

-- a row, bytes, a row
pub row_back : (r : Row) → Fitting widths (numbers r) → row_at (row_bytes r) ≡ r
row_back r f =
    let one : (x : ℕ) → x ≡ x * 1 + 0 = λ x. omega arith in
    let ln = length-laid widths (numbers r) f in
    let bs = row_bytes r in
    let e : read_at 0 widths bs ≡ numbers r =
    read_at_is widths 0 bs (omega (arith, ln, length-append (laid widths (numbers r)) r.value)) ∙ read_laid_more widths (numbers r) r.value f in
    let v : drop 25 bs ≡ r.value = drop_at (laid widths (numbers r)) r.value 25 ln in
    λ i. record {
      kind = (one (get_or bs 0 0) ∙ ap (λ l. get_or l 0 0) e) i;
      field = (one (get_or bs 1 0) ∙ ap (λ l. get_or l 1 0) e) i;
      section = ap (λ l. get_or l 2 0) e i;
      first = ap (λ l. get_or l 3 0) e i;
      last = ap (λ l. get_or l 4 0) e i;
      stamp = ap (λ l. get_or l 5 0) e i;
      day = ap (λ l. get_or l 6 0) e i;
      len = (one (get_or bs 24 0) ∙ ap (λ l. get_or l 7 0) e) i;
      value = v i;
    }

module _ (r : Row) (l : length r.value ≡ 23) (e : first_broken (rules r) ≡ None) where
  -- its value and the zeros behind it
  long : length (take r.len r.value) ≡ r.len
  long = length-take-le r.len r.value (omega (arith, len_high r e))

  zeros : drop r.len r.value ≡ replicate (23 - r.len) 0
  zeros = zeros_are (drop r.len r.value) (23 - r.len) (simp length-drop (omega arith)) (padded r e)

  no_bytes : r.len ≡ 0 → r.value ≡ replicate 23 0
  no_bytes k = rw k at zeros

  value_again : take r.len r.value ++ replicate (23 - length (take r.len r.value)) 0 ≡ r.value
  value_again =
      ap (λ m. take r.len r.value ++ replicate (23 - m) 0) long ∙ ap (λ x. take r.len r.value ++ x) (sym zeros) ∙ take-append-drop r.len r.value

  -- a row that breaks no rule is the row of what it says
  pub rule_back : row_of (mutation_in r) ≡ r
  rule_back = go (eqb r.kind 1) refl
    where
      go : (b : Bool) → eqb r.kind 1 ≡ b → row_of (mutation_in r) ≡ r
      go true t =
          let k : r.kind ≡ 1 = grind (arith, nat_tests) in
          let len : r.len ≡ 0 = no_value r e (λ x. omega arith) in
          rw t
          (λ i. record {
            kind = sym k i;
            field = sym (no_field r e k) i;
            section = r.section;
            first = r.first;
            last = r.last;
            stamp = r.stamp;
            day = r.day;
            len = sym len i;
            value = sym (no_bytes len) i;
          })
      go false t =
          let k : r.kind ≡ 1 → ⊥ = λ x. grind (arith, nat_tests) in
          let low = kind_low r e in
          let kind : 2 + (r.kind - 2) ≡ r.kind = omega arith in
          rw t
          (λ i. record {
            kind = kind i;
            field = r.field;
            section = r.section;
            first = r.first;
            last = sym (one_plot r e k) i;
            stamp = r.stamp;
            day = r.day;
            len = long i;
            value = value_again i;
          })

  pub row_told : (m : Mutation) → m ≡ mutation_in r → IsRowOf m r
  row_told m t = record { row = sym (ap row_of t ∙ rule_back); says = sym t }

-- the outcome tells the record
pub outcome_known : (d : Result Record RecordFault) (r : Record) → outcome d ≡ Ok (says r) → d ≡ Ok r
outcome_known (Ok x) r e = let s : says x ≡ says r = cc in ap Ok (says_known x r s)
outcome_known (Err f) r e = cc

-- bytes without a fault are 48
pub faultless_long : (bs : List ℕ) → fault_of bs ≡ None → length bs ≡ 48
faultless_long bs e = grind (arith, nat_tests)

-- and break no rule
pub faultless_row : (bs : List ℕ) → fault_of bs ≡ None → first_broken (rules (row_at bs)) ≡ None
faultless_row bs e = grind (arith, nat_tests)

-- and what they say is in range
pub faultless_range : (bs : List ℕ) → fault_of bs ≡ None → in_range (mutation_in (row_at bs)) ≡ true
faultless_range bs e = row_range (row_at bs) (faultless_row bs e)

-- and are those of what they say
pub encoded-decoded : (bs : List ℕ) → All (λ b. b < 256) bs → fault_of bs ≡ None → encoded (mutation_in (row_at bs)) ≡ bs
encoded-decoded bs u e =
    let l = faultless_long bs e in
    ap row_bytes (rule_back (row_at bs) (simp length-drop (omega arith)) (faultless_row bs e)) ∙ bytes_back bs l u
