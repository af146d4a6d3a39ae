use Rattle.std.proofs.Common.{Bool, false, ◌≡◌, not, true, sym, ◌∙◌, ap, refl}
use Rattle.std.specs.List.{list_any}
use Rattle.std.specs.Prelude.{IsTrue}
use Rattle.std.specs.Str.{bytes_eq}
use Rattle.column_scan.proofs.TextLaws.{none_picked}
use Rattle.column_scan.proofs.texts.lacks_text.Goals as goal

from_not : (b : Bool) → IsTrue (not b) → b ≡ false
from_not true is = cc
from_not false is = refl

pub returns-in-Some-has_text : goal.returns-in-Some-has_text
returns-in-Some-has_text c = λ none.
    none_picked c.args.hint.now c.in-Some.text c.args.bytes.now (cc) (λ texts read.
    ap (λ l. list_any (λ x. bytes_eq x l) texts) (sym (c.as_bytes.ensures.value ∙ c.as_str.ensures)) ∙ sym (c.in-Some-has_text.ensures texts read) ∙ from_not c.in-Some-has_text.found none)
