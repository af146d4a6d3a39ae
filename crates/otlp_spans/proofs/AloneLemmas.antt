-- What an attribute's value is by its only member.
use Rattle.std.proofs.Common.{◌≡◌, ℕ, Bool, true, false, cond, List, [], ◌∷◌, Some, None, Ordering, Less, Equal, Greater, nat_cmp, is_eq, codes, bytes_eq, true≢false, String, Global, string_bytes, length, refl, sym, ap, subst, ◌∙◌, arith}
use Rattle.std.proofs.lemmas.Map.Text.{is_eq-slice_cmp}
use Rattle.std.proofs.lemmas.Slice.Eq.{bytes_eq-Decides}
use Rattle.std.proofs.lemmas.Option.{same_Some}
use Rattle.std.specs.Cmp.Lexicographic.{slice_cmp}
use Rattle.std.specs.List.{slice_get}
use Rattle.std.specs.Ordering.{match_ordering}
use Rattle.serde_json.specs.Data.{Data, null, boolean, number, string, array, object, Members, no_members, member}
use Rattle.serde_json.specs.Find.{as_object}
use Rattle.serde_json.specs.View.{members_view, view}
use Rattle.serde_json.specs.declared.value.Value.{Value}
use Rattle.serde_json.proofs.Views.{Entry}
use Rattle.otlp_spans.specs.Attributes.{value_of}
use Rattle.otlp_spans.specs.Fields.{int_of}
use Rattle.otlp_spans.specs.Forms.{found}
use Rattle.otlp_spans.specs.Json.{◌>>=◌, not_null}
use Rattle.otlp_spans.specs.Keys.{value_named}
use Rattle.otlp_spans.specs.Members.{member_name}
use Rattle.otlp_spans.specs.declared.paths.Member.{Member}
use Rattle.otlp_spans.specs.declared.paths.Member.TheVariants as m

-- an object of one member
abbrev of_one : List ℕ → Data → Data
of_one name d = object (member name d no_members)

by_order : (o : Ordering) (d : Data) → (match_ordering o None (Some d) None >>= not_null) ≡ cond (is_eq o) (not_null d) None
by_order Less d = refl
by_order Equal d = refl
by_order Greater d = refl

unlike : (xs ys : List ℕ) (b : Bool) → bytes_eq xs ys ≡ b → bytes_eq ys xs ≡ false → b ≡ false
unlike xs ys true is other = absurd (true≢false (sym ((bytes_eq-Decides ys xs).1 (sym ((bytes_eq-Decides xs ys).0 is))) ∙ other))
unlike xs ys false is other = refl

apart : (k : Member) (name : List ℕ) (d : Data) → bytes_eq name (member_name k) ≡ false → found k (of_one name d) ≡ None
apart k name d other =
    by_order (slice_cmp nat_cmp (member_name k) name) d
    ∙ ap (λ b. cond b (not_null d) None) (is_eq-slice_cmp (member_name k) name ∙ unlike (member_name k) name _ refl other)

abbrev IsNamed : Data → List ℕ → Type 0
IsNamed d name = value_of (of_one name d) ≡ value_named name d

-- each name by itself
text : (d : Data) → IsNamed d (codes "stringValue")
unfolding value_of
text null = refl
text (boolean b) = refl
text (number n) = refl
text (string s) = refl
text (array ds) = refl
text (object ms) = refl

truth : (d : Data) → IsNamed d (codes "boolValue")
unfolding value_of
truth null = refl
truth (boolean b) = refl
truth (number n) = refl
truth (string s) = refl
truth (array ds) = refl
truth (object ms) = refl

whole : (d : Data) → IsNamed d (codes "intValue")
unfolding value_of int_of
whole null = refl
whole (boolean b) = refl
whole (number n) = refl
whole (string s) = refl
whole (array ds) = refl
whole (object ms) = refl

float : (d : Data) → IsNamed d (codes "doubleValue")
unfolding value_of
float null = refl
float (boolean b) = refl
float (number n) = refl
float (string s) = refl
float (array ds) = refl
float (object ms) = refl

list : (d : Data) → IsNamed d (codes "arrayValue")
unfolding value_of
list null = refl
list (boolean b) = refl
list (number n) = refl
list (string s) = refl
list (array ds) = refl
list (object ms) = refl

pairs : (d : Data) → IsNamed d (codes "kvlistValue")
unfolding value_of
pairs null = refl
pairs (boolean b) = refl
pairs (number n) = refl
pairs (string s) = refl
pairs (array ds) = refl
pairs (object ms) = refl

bytes : (d : Data) → IsNamed d (codes "bytesValue")
unfolding value_of
bytes null = refl
bytes (boolean b) = refl
bytes (number n) = refl
bytes (string s) = refl
bytes (array ds) = refl
bytes (object ms) = refl

-- either this is the name, or it isn't
pick : (P : List ℕ → Type 0) (name this : List ℕ) (b : Bool) → bytes_eq name this ≡ b → P this → (bytes_eq name this ≡ false → P name) → P name
pick P name this true is here later = subst P (sym ((bytes_eq-Decides name this).0 is)) here
pick P name this false is here later = later is

-- none of the seven is there
none_there : (d : Data) → found m.StringValue d ≡ None → found m.BoolValue d ≡ None → found m.IntValue d ≡ None → found m.DoubleValue d ≡ None → found m.ArrayValue d ≡ None
    → found m.KvlistValue d ≡ None → found m.BytesValue d ≡ None → value_of d ≡ None
unfolding value_of
none_there d a b c e f g h = rw (a, b, c, e, f, g, h) refl

none_named : (name : List ℕ) (d : Data) → bytes_eq name (codes "stringValue") ≡ false → bytes_eq name (codes "boolValue") ≡ false → bytes_eq name (codes "intValue") ≡ false
    → value_named name d ≡ None
none_named name d a b c = rw (a, b, c) refl

pub value_alone : (name : List ℕ) (d : Data) → value_of (object (member name d no_members)) ≡ value_named name d
value_alone name d =
    pick (IsNamed d) name (codes "stringValue") _ refl (text d) (λ a.
    pick (IsNamed d) name (codes "boolValue") _ refl (truth d) (λ b.
    pick (IsNamed d) name (codes "intValue") _ refl (whole d) (λ c.
    pick (IsNamed d) name (codes "doubleValue") _ refl (float d) (λ e.
    pick (IsNamed d) name (codes "arrayValue") _ refl (list d) (λ f.
    pick (IsNamed d) name (codes "kvlistValue") _ refl (pairs d) (λ g.
    pick (IsNamed d) name (codes "bytesValue") _ refl (bytes d) (λ h.
    none_there (of_one name d) (apart m.StringValue name d a) (apart m.BoolValue name d b) (apart m.IntValue name d c) (apart m.DoubleValue name d e)
    (apart m.ArrayValue name d f) (apart m.KvlistValue name d g) (apart m.BytesValue name d h)
    ∙ sym (none_named name d a b c))))))))

-- ---- the only entry of an object

pub object_of : (d : Data) (ms : Members) → Some ms ≡ as_object d → d ≡ object ms
object_of null ms h = cc h
object_of (boolean b) ms h = cc h
object_of (number n) ms h = cc h
object_of (string s) ms h = cc h
object_of (array ds) ms h = cc h
object_of (object ns) ms h = ap object (sym (same_Some _ _ h))

pub only_entry : (es : List Entry) (k : String Global) (v : Value) (name : List ℕ) (d : Data) → length es ≡ 1 → slice_get es 0 ≡ Some (k, v) → name ≡ string_bytes k
    → Some (members_view es) ≡ as_object d → d ≡ object (member name (view v) no_members)
only_entry [] k v name d one first is whole = absurd (omega arith)
only_entry (e ∷ []) k v name d one first is whole =
    object_of d _ whole
    ∙ ap (λ (x : Entry). object (members_view (x ∷ []))) (same_Some _ _ first)
    ∙ ap (λ (n : List ℕ). object (member n (view v) no_members)) (sym is)
only_entry (e ∷ f ∷ es) k v name d one first is whole = absurd (omega arith)
