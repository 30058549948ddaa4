use Rattle.std.proofs.Common.{◌≡◌, ◌<◌, drop, get_or, sym, ap, ◌∙◌, arith}
use Rattle.std.specs.Int.{w16, w32, w64}
use Rattle.std.proofs.lemmas.List.{take_all, length-drop}
use Rattle.std.proofs.lemmas.List.Elements.{All-from_get_or}
use Rattle.layout.specs.Layout.{row_at, row_bytes}
use Rattle.layout.proofs.Numbers.{number_in}
use Rattle.layout.proofs.Trips.{bytes_back}
use Rattle.layout.proofs.row.RowFromRefArrayU848.from.Goals as goal

pub returns : goal.returns
returns c =
    let b = c.args.b.now in
    let e : record {
      kind = get_or b 0 0;
      field = get_or b 1 0;
      section = c.from_be_bytes.result;
      first = c.from_be_bytes-2.result;
      last = c.from_be_bytes-3.result;
      stamp = c.from_be_bytes-4.result;
      day = c.from_be_bytes-5.result;
      len = get_or b 24 0;
      value = c.array_at-6.result;
    } ≡ row_at b = λ i. record {
      kind = get_or b 0 0;
      field = get_or b 1 0;
      section = number_in w16 2 b _ _ c.from_be_bytes.ensures c.array_at.ensures i;
      first = number_in w32 4 b _ _ c.from_be_bytes-2.ensures c.array_at-2.ensures i;
      last = number_in w32 8 b _ _ c.from_be_bytes-3.ensures c.array_at-3.ensures i;
      stamp = number_in w64 12 b _ _ c.from_be_bytes-4.ensures c.array_at-4.ensures i;
      day = number_in w32 20 b _ _ c.from_be_bytes-5.ensures c.array_at-5.ensures i;
      len = get_or b 24 0;
      value = (c.array_at-6.ensures ∙ take_all 23 (drop 25 b) (simp length-drop (omega arith))) i;
    } in
    record { bytes = sym (ap row_bytes e ∙ bytes_back b c.told-b (All-from_get_or (λ x. x < 256) b 0 (λ i _. c.fits-b i))); row = sym e }
