use Rattle.std.proofs.Common.{◌≡◌, replicate, refl, ap, ◌∙◌, rules}
use Rattle.std.specs.Int.{w16, w32, w64}
use Rattle.layout.specs.Numbers.{digits}
use Rattle.layout.specs.Layout.{row_at, row_bytes}
use Rattle.layout.proofs.Writes.{written, written_last, byte_is, be_is}
use Rattle.layout.proofs.Trips.{row_back}
use Rattle.layout.proofs.row.ArrayU848FromRow.from.Goals as goal

-- each place is a numeral, so the writes compute
pub returns : goal.returns
returns c =
    let r = c.args.row in
    let e : c.write-9.new.b ≡ row_bytes r =
    written_last r.value 25 23 c.write-9.ensures (search (rules, c.well_formed))
    (written 24 (digits 1 r.len) c.write-8.ensures (byte_is r.len (search (rules, c.well_formed)))
    (written 20 (digits 4 r.day) c.write-7.ensures (c.to_be_bytes-5.ensures ∙ be_is w32 r.day)
    (written 12 (digits 8 r.stamp) c.write-6.ensures (c.to_be_bytes-4.ensures ∙ be_is w64 r.stamp)
    (written 8 (digits 4 r.last) c.write-5.ensures (c.to_be_bytes-3.ensures ∙ be_is w32 r.last)
    (written 4 (digits 4 r.first) c.write-4.ensures (c.to_be_bytes-2.ensures ∙ be_is w32 r.first)
    (written 2 (digits 2 r.section) c.write-3.ensures (c.to_be_bytes.ensures ∙ be_is w16 r.section)
    (written 1 (digits 1 r.field) c.write-2.ensures (byte_is r.field (search (rules, c.well_formed)))
    (written {b = replicate 48 0} 0 (digits 1 r.kind) c.write.ensures (byte_is r.kind (search (rules, c.well_formed))) refl)))))))) refl in
    record { bytes = e; row = ap row_at e ∙ row_back r (search (rules, c.well_formed)) }
