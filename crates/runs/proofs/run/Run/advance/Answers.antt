use Rattle.std.proofs.Common.{rules, ◌≡◌, ℕ, ◌<◌, ◌≤◌, Some, None, MatchOption, Option, unwrap_or, sym, ◌∙◌, arith}
use Rattle.std.proofs.lemmas.Iterator.{first_from_Range}
use Rattle.records.specs.Meaning.{says}
use Rattle.layout.specs.Pieces.{mutation_at}
use Rattle.canon.specs.Check.{Passed}
use Rattle.runs.specs.Opened.{bytes_in}
use Rattle.runs.proofs.run.Run.advance.Goals as goal

-- all before the first that is not P, or before the end, are P
before : (P : ℕ → Type 0) {from n m x : ℕ} (r : Option ℕ) → MatchOption r ((k : ℕ) → from ≤ k → k < n → P k) (λ i. (from ≤ i) × (i < n) × (P i → ⊥) × ((k : ℕ) → from ≤ k → k < i → P k)) → m ≡ n → x ≡ unwrap_or r m → (k : ℕ) → from ≤ k → k < x → P k
before P None h e u k l b = h k l (omega (arith, e, u, b))
before P (Some i) h e u k l b = h.3 k l (omega (arith, u, b))

pub returns-clause-behind : goal.returns-clause-behind
returns-clause-behind c =
    let P = λ (k : ℕ). Passed (mutation_at (bytes_in c.args.self.now) k) (says c.args.record.now) in
    before P c.find.result (first_from_Range _ _ _ c.find.result (λ k. P k → ⊥) P c.find.ensures.ran (λ x q k. search rules) (λ x q k. search rules)) (c.len-2.ensures ∙ sym c.len.ensures) c.unwrap_or.ensures
