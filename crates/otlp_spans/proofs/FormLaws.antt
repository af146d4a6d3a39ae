-- The plain program `first_wrong` finds the first part of the wrong form.
use Rattle.std.proofs.Common.{◌≡◌, ◌⊎◌, inl, inr, ℕ, zero, suc, ◌+◌, ◌≤◌, Bool, true, false, List, [], ◌∷◌, Option, Some, None, refl, sym, ap, ◌∙◌, subst, arith, true≢false}
use Rattle.std.proofs.lemmas.Option.{none-some, same_Some}
use Rattle.std.specs.Prelude.{⊤}
use Rattle.std.specs.Option.{option_or}
use Rattle.serde_json.specs.Data.{Data, null, boolean, number, string, array, object, Items, no_items, item}
use Rattle.serde_json.specs.Find.{at, get_item}
use Rattle.otlp_spans.specs.Forms.{Form, Text, NumberOrText, ListOf, ObjectOf, Fields, no_more, field, IsField, first, later, IsWrong, here, IsBefore, IsFirstWrong, behind, first_in_fields, first_in_items, first_wrong, found, if_kind, is_kind, request_form}
use Rattle.otlp_spans.specs.Forms as form
use Rattle.otlp_spans.specs.Json.{◌>>=◌, items_in, list_of, or_empty}
use Rattle.otlp_spans.specs.Members.{member_rank}
use Rattle.otlp_spans.specs.declared.paths.Member.{Member}
use Rattle.otlp_spans.specs.declared.paths.Step.{Step}
use Rattle.otlp_spans.specs.declared.paths.Step.TheVariants.{Item, Of}

-- ---- members stand in the order of their ranks

abbrev mutual
  IsOrdered : Form → Type 0
  IsOrdered Text = ⊤
  IsOrdered NumberOrText = ⊤
  IsOrdered (ListOf f) = IsOrdered f
  IsOrdered (ObjectOf fs) = AreOrdered 0 fs

  -- each has at least this rank
  AreOrdered : ℕ → Fields → Type 0
  AreOrdered n no_more = ⊤
  AreOrdered n (field m f fs) = (n ≤ member_rank m) × IsOrdered f × AreOrdered (suc (member_rank m)) fs

at_least : (fs : Fields) (n k : ℕ) (m : Member) (f : Form) → k ≤ n → AreOrdered n fs → IsField m f fs → k ≤ member_rank m
at_least no_more n k m f below ordered is = elim is [ ]
at_least (field l g fs) n k _ _ below ordered first = let h = ordered.0 in omega arith
at_least (field l g fs) n k m f below ordered (later is) = at_least fs (suc (member_rank l)) k m f (let h = ordered.0 in omega arith) ordered.2 is

-- ---- what is told of paths

-- the path is the first of these, or there is none
abbrev Tells : (List Step → Type 0) → Option (List Step) → Type 0
Tells W None = (p : List Step) → W p → ⊥
Tells W (Some p) = W p × ((q : List Step) → W q → (q ≡ p) ⊎ IsBefore p q)

-- the same paths
moved : (W V : List Step → Type 0) (o : Option (List Step)) → ((p : List Step) → W p → V p) → ((p : List Step) → V p → W p) → Tells W o → Tells V o
moved W V None to from told = λ p v. told p (from p v)
moved W V (Some p) to from told = (to p told.0, λ q v. told.1 q (from q v))

-- ---- a list

abbrev nth : ℕ → List Data → Option Data
nth i [] = None
nth zero (d ∷ ds) = Some d
nth (suc i) (d ∷ ds) = nth i ds

nth-items : (i : ℕ) (ds : Items) → get_item i ds ≡ nth i (items_in ds)
nth-items i no_items = refl
nth-items zero (item d ds) = refl
nth-items (suc i) (item d ds) = nth-items i ds

-- a wrong form in an item, the first of which has this index
record WrongItem (f : Form) (ds : List Data) (i : ℕ) (p : List Step) : Type 0 where
  place : ℕ
  value : Data
  path : List Step
  is : nth place ds ≡ Some value
  wrong : IsWrong f value path
  whole : p ≡ Item (i + place) ∷ path

item_first : (f : Form) (d : Data) (ds : List Data) (i : ℕ) (p : List Step) → IsWrong f d p → WrongItem f (d ∷ ds) i (Item i ∷ p)
item_first f d ds i p w = record { place = 0; value = d; path = p; is = refl; wrong = w; whole = ap (λ k. Item k ∷ p) (omega arith) }

item_later : (f : Form) (d : Data) (ds : List Data) (i : ℕ) (p : List Step) → WrongItem f ds (suc i) p → WrongItem f (d ∷ ds) i p
item_later f d ds i p w = record {
  place = suc w.place;
  value = w.value;
  path = w.path;
  is = w.is;
  wrong = w.wrong;
  whole = w.whole ∙ ap (λ k. Item k ∷ w.path) (omega arith);
}

abbrev ItemSplit : Form → Data → List Data → ℕ → List Step → Type 0
ItemSplit f d ds i p = ((q : List Step) × IsWrong f d q × (p ≡ Item i ∷ q)) ⊎ WrongItem f ds (suc i) p

split_at : (f : Form) (d e : Data) (ds : List Data) (i j : ℕ) (p q : List Step) → nth j (d ∷ ds) ≡ Some e → IsWrong f e q → p ≡ Item (i + j) ∷ q → ItemSplit f d ds i p
split_at f d e ds i zero p q is w whole =
    inl (q, subst (λ x. IsWrong f x q) (sym (same_Some _ _ is)) w, whole ∙ ap (λ k. Item k ∷ q) (omega arith))
split_at f d e ds i (suc j) p q is w whole =
    inr (record { place = j; value = e; path = q; is = is; wrong = w; whole = whole ∙ ap (λ k. Item k ∷ q) (omega arith) })

item_split : (f : Form) (d : Data) (ds : List Data) (i : ℕ) (p : List Step) → WrongItem f (d ∷ ds) i p → ItemSplit f d ds i p
item_split f d ds i p w = split_at f d w.value ds i w.place p w.path w.is w.wrong w.whole

-- a path in the first item and one in a later item
item_before : (f : Form) (ds : List Data) (i : ℕ) (p q : List Step) → WrongItem f ds (suc i) q → IsBefore (Item i ∷ p) q
item_before f ds i p q w = subst (λ x. IsBefore (Item i ∷ p) x) (sym w.whole) (inl (omega arith))

deeper : (s : Step) (p q : List Step) → (q ≡ p) ⊎ IsBefore p q → (s ∷ q ≡ s ∷ p) ⊎ IsBefore (s ∷ p) (s ∷ q)
deeper s p q (inl same) = inl (ap (λ x. s ∷ x) same)
deeper s p q (inr before) = inr (inr (refl, before))

first_item : (f : Form) (d : Data) (ds : List Data) (i : ℕ) (one rest : Option (List Step)) → Tells (IsWrong f d) one → Tells (WrongItem f ds (suc i)) rest
    → Tells (WrongItem f (d ∷ ds) i) (option_or (behind (Item i) one) rest)
first_item f d ds i None None one rest = λ p w. elim (item_split f d ds i p w) [ inl h ↦ one h.0 h.1 | inr h ↦ rest p h ]
first_item f d ds i None (Some p) one rest =
    (item_later f d ds i p rest.0, λ q w. elim (item_split f d ds i q w) [ inl h ↦ absurd (one h.0 h.1) | inr h ↦ rest.1 q h ])
first_item f d ds i (Some p) rest one others = (
  item_first f d ds i p one.0,
  λ q w. elim (item_split f d ds i q w) [
    | inl h ↦ subst (λ x. (x ≡ Item i ∷ p) ⊎ IsBefore (Item i ∷ p) x) (sym h.2) (deeper (Item i) p h.0 (one.1 h.0 h.1))
    | inr h ↦ inr (item_before f ds i p q h)
  ],
)

items_tell : (f : Form) → ((d : Data) → Tells (IsWrong f d) (first_wrong f d)) → (i : ℕ) (ds : List Data)
    → Tells (WrongItem f ds i) (first_in_items (first_wrong f) i ds)
items_tell f each i [] = λ p w. none-some _ w.is
items_tell f each i (d ∷ ds) = first_item f d ds i (first_wrong f d) _ (each d) (items_tell f each (suc i) ds)

-- ---- an object

-- a wrong form in a member
record WrongMember (fs : Fields) (d : Data) (p : List Step) : Type 0 where
  at_member : Member
  of_form : Form
  value : Data
  path : List Step
  field_is : IsField at_member of_form fs
  is : found at_member d ≡ Some value
  wrong : IsWrong of_form value path
  whole : p ≡ Of at_member ∷ path

member_later : (m : Member) (f : Form) (fs : Fields) (d : Data) (p : List Step) → WrongMember fs d p → WrongMember (field m f fs) d p
member_later m f fs d p w = record { at_member = w.at_member; of_form = w.of_form; value = w.value; path = w.path; field_is = later w.field_is; is = w.is; wrong = w.wrong; whole = w.whole }

-- a path in this member, or in one after it
abbrev MemberSplit : Member → Form → Fields → Data → List Step → Type 0
MemberSplit m f fs d p = ((e : Data) × (q : List Step) × (found m d ≡ Some e) × IsWrong f e q × (p ≡ Of m ∷ q)) ⊎ WrongMember fs d p

split_by : (m l : Member) (f g : Form) (fs : Fields) (d e : Data) (p q : List Step) → IsField l g (field m f fs) → found l d ≡ Some e → IsWrong g e q → p ≡ Of l ∷ q
    → MemberSplit m f fs d p
split_by m _ f _ fs d e p q first is w whole = inl (e, q, is, w, whole)
split_by m l f g fs d e p q (later h) is w whole =
    inr (record { at_member = l; of_form = g; value = e; path = q; field_is = h; is = is; wrong = w; whole = whole })

member_split : (m : Member) (f : Form) (fs : Fields) (d : Data) (p : List Step) → WrongMember (field m f fs) d p → MemberSplit m f fs d p
member_split m f fs d p w = split_by m w.at_member f w.of_form fs d w.value p w.path w.field_is w.is w.wrong w.whole

member_before : (m : Member) (fs : Fields) (d : Data) (p q : List Step) → AreOrdered (suc (member_rank m)) fs → WrongMember fs d q → IsBefore (Of m ∷ p) q
member_before m fs d p q ordered w =
    let above : suc (member_rank m) ≤ member_rank w.at_member = at_least fs (suc (member_rank m)) (suc (member_rank m)) w.at_member w.of_form (omega arith) ordered w.field_is in
    subst (λ x. IsBefore (Of m ∷ p) x) (sym w.whole) (inl (omega arith))

-- nothing is wrong in this member
only_later : (m : Member) (f : Form) (fs : Fields) (d : Data) (rest : Option (List Step)) → ((e : Data) (q : List Step) → found m d ≡ Some e → IsWrong f e q → ⊥)
    → Tells (WrongMember fs d) rest → Tells (WrongMember (field m f fs) d) rest
only_later m f fs d None right rest = λ p w. elim (member_split m f fs d p w) [ inl h ↦ right h.0 h.1 h.2 h.3 | inr h ↦ rest p h ]
only_later m f fs d (Some p) right rest =
    (member_later m f fs d p rest.0, λ q w. elim (member_split m f fs d q w) [ inl h ↦ absurd (right h.0 h.1 h.2 h.3) | inr h ↦ rest.1 q h ])

present : (m : Member) (f : Form) (fs : Fields) (d e : Data) (one rest : Option (List Step)) → AreOrdered (suc (member_rank m)) fs → found m d ≡ Some e
    → Tells (IsWrong f e) one → Tells (WrongMember fs d) rest → Tells (WrongMember (field m f fs) d) (option_or (behind (Of m) one) rest)
present m f fs d e None rest ordered is one told =
    only_later m f fs d rest (λ x q h w. one q (subst (λ y. IsWrong f y q) (same_Some _ _ (sym h ∙ is)) w)) told
present m f fs d e (Some p) rest ordered is one told = (
  record { at_member = m; of_form = f; value = e; path = p; field_is = first; is = is; wrong = one.0; whole = refl },
  λ q w. elim (member_split m f fs d q w) [
    | inl h ↦
        let here = subst (λ y. IsWrong f y h.1) (same_Some _ _ (sym h.2 ∙ is)) h.3 in
        subst (λ x. (x ≡ Of m ∷ p) ⊎ IsBefore (Of m ∷ p) x) (sym h.4) (deeper (Of m) p h.1 (one.1 h.1 here))
    | inr h ↦ inr (member_before m fs d p q ordered h)
  ],
)

first_member : (m : Member) (f : Form) (fs : Fields) (d : Data) (o : Option Data) (rest : Option (List Step)) → AreOrdered (suc (member_rank m)) fs
    → found m d ≡ o → ((e : Data) → Tells (IsWrong f e) (first_wrong f e)) → Tells (WrongMember fs d) rest
    → Tells (WrongMember (field m f fs) d) (option_or (behind (Of m) (o >>= first_wrong f)) rest)
first_member m f fs d None rest ordered is each told = only_later m f fs d rest (λ e q h w. none-some _ (sym is ∙ h)) told
first_member m f fs d (Some e) rest ordered is each told = present m f fs d e (first_wrong f e) rest ordered is (each e) told

-- ---- every form

at-nth : (i : ℕ) (d : Data) → at i d ≡ nth i (or_empty (list_of d))
at-nth i null = refl
at-nth i (boolean b) = refl
at-nth i (number n) = refl
at-nth i (string s) = refl
at-nth i (array ds) = nth-items i ds
at-nth i (object ms) = refl

after_none : (q : List Step) → (q ≡ []) ⊎ IsBefore [] q
after_none [] = inl refl
after_none (s ∷ q) = inr tt

by_kind : (f : Form) (d : Data) (b : Bool) (inside : Option (List Step)) → is_kind f d ≡ b → (is_kind f d ≡ true → Tells (IsWrong f d) inside)
    → Tells (IsWrong f d) (if_kind b inside)
by_kind f d true inside is told = told is
by_kind f d false inside is told = (here is, λ q w. after_none q)

text_right : (d : Data) → is_kind Text d ≡ true → (p : List Step) → IsWrong Text d p → ⊥
text_right d is [] (here h) = true≢false (sym is ∙ h)
text_right d is (s ∷ p) w = elim w [ ]

number_right : (d : Data) → is_kind NumberOrText d ≡ true → (p : List Step) → IsWrong NumberOrText d p → ⊥
number_right d is [] (here h) = true≢false (sym is ∙ h)
number_right d is (s ∷ p) w = elim w [ ]

item_wrong : (f : Form) (d : Data) (p : List Step) → WrongItem f (or_empty (list_of d)) 0 p → IsWrong (ListOf f) d p
item_wrong f d p w = subst (λ x. IsWrong (ListOf f) d x) (sym (w.whole ∙ ap (λ k. Item k ∷ w.path) (omega arith))) (form.item w.place (at-nth w.place d ∙ w.is) w.wrong)

wrong_item : (f : Form) (d : Data) (p : List Step) → is_kind (ListOf f) d ≡ true → IsWrong (ListOf f) d p → WrongItem f (or_empty (list_of d)) 0 p
wrong_item f d [] is (here h) = absurd (true≢false (sym is ∙ h))
wrong_item f d (Of m ∷ q) is w = elim w [ ]
wrong_item f d (Item k ∷ q) is (form.item _ found_item w) =
    record { place = k; value = _; path = q; is = sym (at-nth k d) ∙ found_item; wrong = w; whole = ap (λ n. Item n ∷ q) (omega arith) }

member_wrong : (fs : Fields) (d : Data) (p : List Step) → WrongMember fs d p → IsWrong (ObjectOf fs) d p
member_wrong fs d p w = subst (λ x. IsWrong (ObjectOf fs) d x) (sym w.whole) (form.member w.at_member w.field_is w.is w.wrong)

wrong_member : (fs : Fields) (d : Data) (p : List Step) → is_kind (ObjectOf fs) d ≡ true → IsWrong (ObjectOf fs) d p → WrongMember fs d p
wrong_member fs d [] is (here h) = absurd (true≢false (sym is ∙ h))
wrong_member fs d (Item k ∷ q) is w = elim w [ ]
wrong_member fs d (Of l ∷ q) is (form.member _ field_is found_member w) =
    record { at_member = l; of_form = _; value = _; path = q; field_is = field_is; is = found_member; wrong = w; whole = refl }

no_field : (m : Member) (f : Form) → IsField m f no_more → ⊥
no_field m f is = elim is [ ]

no_member : (d : Data) (p : List Step) → WrongMember no_more d p → ⊥
no_member d p w = no_field w.at_member w.of_form w.field_is

mutual
  form_tells : (f : Form) → IsOrdered f → (d : Data) → Tells (IsWrong f d) (first_wrong f d)
  form_tells Text ordered d = by_kind Text d _ None refl (λ is. text_right d is)
  form_tells NumberOrText ordered d = by_kind NumberOrText d _ None refl (λ is. number_right d is)
  form_tells (ListOf f) ordered d =
      by_kind (ListOf f) d _ _ refl (λ is. moved _ _ _ (item_wrong f d) (λ p w. wrong_item f d p is w)
      (items_tell f (form_tells f ordered) 0 (or_empty (list_of d))))
  form_tells (ObjectOf fs) ordered d =
      by_kind (ObjectOf fs) d _ _ refl (λ is. moved _ _ _ (member_wrong fs d) (λ p w. wrong_member fs d p is w) (fields_tell fs 0 ordered d))

  fields_tell : (fs : Fields) (n : ℕ) → AreOrdered n fs → (d : Data) → Tells (WrongMember fs d) (first_in_fields fs d)
  fields_tell no_more n ordered d = no_member d
  fields_tell (field m f fs) n ordered d =
      first_member m f fs d (found m d) _ ordered.2 refl (form_tells f ordered.1) (fields_tell fs (suc (member_rank m)) ordered.2 d)

-- ---- the form of a line

line_ordered : IsOrdered request_form
line_ordered = grind arith

first_of : (d : Data) (o : Option (List Step)) (path : List Step) → Tells (IsWrong request_form d) o → o ≡ Some path → IsFirstWrong request_form d path
first_of d None path told is = absurd (none-some _ is)
first_of d (Some p) path told is =
    subst (λ x. IsFirstWrong request_form d x) (same_Some _ _ is) (record { wrong = told.0; first = told.1 })

none_of : (d : Data) (o : Option (List Step)) → Tells (IsWrong request_form d) o → o ≡ None → (path : List Step) → IsWrong request_form d path → ⊥
none_of d None told is = told
none_of d (Some p) told is = absurd (none-some _ (sym is))

pub first_found : (d : Data) (path : List Step) → first_wrong request_form d ≡ Some path → IsFirstWrong request_form d path
first_found d path is = first_of d (first_wrong request_form d) path (form_tells request_form line_ordered d) is

pub none_found : (d : Data) → first_wrong request_form d ≡ None → (path : List Step) → IsWrong request_form d path → ⊥
none_found d is = none_of d (first_wrong request_form d) (form_tells request_form line_ordered d) is
