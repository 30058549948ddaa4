use Rattle.std.proofs.Common.{◌≡◌, ◌+◌, ◌-◌, ◌^◌, ◌<◌, ℕ, false, List, [], ◌++◌, length, get_or, take, arith, rules}
use Rattle.std.specs.Fmt.{digits, format_spec, padded_integral}
use Rattle.std.specs.List.{flat_map}
use Rattle.std.proofs.Output.{has_written_append, has_written_of_eq}
use Rattle.std.proofs.lemmas.Fmt.{hex_byte}
use Rattle.std.proofs.lemmas.List.{take_more, flat_map_more}
use Rattle.wording.specs.Words.{hex_pair}
use Rattle.wording.proofs.value.WordsValueDisplay.fmt.Goals as goal

-- one more byte
more : (bs : List ℕ) (i : ℕ) → i < length bs → get_or bs i 0 < 256
    → flat_map hex_pair (take i bs) ++ padded_integral (format_spec 32 0 4 2 (2 ^ 64 - 1)) false [] (digits 16 false (get_or bs i 0)) ≡ flat_map hex_pair (take (i + 1) bs)
more bs i within small =
    rw (hex_byte false (get_or bs i 0) small, take_more bs i 0 within) (flat_map_more hex_pair [] (take i bs) (get_or bs i 0))

pub loop-b-preserved : goal.loop-b-preserved
loop-b-preserved g c =
    λ plain. has_written_of_eq _ _ _ _ _ (more c.bytes-bytes.result.now c.loop-b.b-index (omega arith) (omega (arith, c.type_inv.bytes c.loop-b.b-index)))
    (has_written_append _ _ _ _ _ _ (c.loop-b.invariant plain) (search rules))
