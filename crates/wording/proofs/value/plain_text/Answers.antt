use Rattle.std.proofs.Common.{◌≡◌, ◌<◌, ℕ, List, true, false, length, get_or, rules, tests, arith}
use Rattle.std.specs.List.{list_all}
use Rattle.std.specs.Str.{IsUtf8}
use Rattle.std.proofs.lemmas.Bool.{false_from_ne_true}
use Rattle.std.proofs.lemmas.Bool.Decides.{nat_tests}
use Rattle.std.proofs.lemmas.Iterator.{YieldsList-from_slice}
use Rattle.std.proofs.lemmas.Iterator.Search.{all_from_yields_List}
use Rattle.std.proofs.lemmas.List.Sums.{AllPass-from_list_all}
use Rattle.std.proofs.lemmas.Str.{IsUtf8-from_ascii}
use Rattle.std.proofs.lemmas.Str.Ascii.{IsAscii-from_reads}
use Rattle.wording.specs.Words.{is_plain}
use Rattle.wording.proofs.value.plain_text.Goals as goal

is_plain-ascii : (b : ℕ) → is_plain b ≡ true → b < 128
is_plain-ascii b h = grind (arith, nat_tests)

IsUtf8-from_plain : (bs : List ℕ) → list_all is_plain bs ≡ true → IsUtf8 bs
IsUtf8-from_plain bs h = IsUtf8-from_ascii bs (IsAscii-from_reads bs (length bs) (omega arith) (λ k below. is_plain-ascii (get_or bs k 0) (AllPass-from_list_all is_plain bs h k 0 below)))

false-from_not_utf8 : (bs : List ℕ) → ¬ (IsUtf8 bs) → list_all is_plain bs ≡ false
false-from_not_utf8 bs bad = false_from_ne_true (list_all is_plain bs) (λ h. bad (IsUtf8-from_plain bs h))

pub returns-in_err-text : goal.returns-in_err-text
returns-in_err-text c = search (rules, false-from_not_utf8)

pub returns : goal.returns
returns c =
    let all : c.all.result ≡ list_all is_plain c.args.bytes.now = all_from_yields_List is_plain _ _ c.all.result c.all.ensures.ran (YieldsList-from_slice c.args.bytes.now cc) (λ x b q k. search (rules, tests)) in
    search rules
