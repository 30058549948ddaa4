-- The ranges of a record's numbers.
use Rattle.std.specs.Prelude.{ℕ, Bool, ◌&&◌, nat_le}
use Rattle.records.specs.Content.{Mutation, deletion, entry}

abbrev pub within : ℕ → ℕ → ℕ → Bool
within low x high = nat_le low x && nat_le x high

abbrev pub section_fits : ℕ → Bool
section_fits s = within 1 s 9999

abbrev pub plot_fits : ℕ → Bool
plot_fits p = within 1 p 999999

-- the last plot of a deletion from `first` on
abbrev pub last_fits : ℕ → ℕ → Bool
last_fits first last = within first last 999999

abbrev pub field_fits : ℕ → Bool
field_fits f = within 1 f 32

abbrev pub stamp_fits : ℕ → Bool
stamp_fits t = within 1 t 9223372036854775807

-- the day of a deletion or a cleared cell
abbrev pub day_fits : ℕ → Bool
day_fits d = within 1 d 99999

abbrev pub place_fits : ℕ → ℕ → ℕ → Bool
place_fits s p f = section_fits s && (plot_fits p && field_fits f)

abbrev pub deletion_fits : ℕ → ℕ → ℕ → ℕ → ℕ → Bool
deletion_fits s first last t d = section_fits s && (plot_fits first && (last_fits first last && (stamp_fits t && day_fits d)))

-- whether a record's section, plots and field are in range, as those of every record of the code are
abbrev pub in_range : Mutation → Bool
in_range (deletion s first last t) = section_fits s && (plot_fits first && last_fits first last)
in_range (entry s p f c) = place_fits s p f
