-- The keys of attributes, and the first attribute of each.
use Rattle.std.proofs.Common.{◌≡◌, ℕ, suc, ◌+◌, ◌<◌, ◌||◌, Bool, true, false, cond, List, [], ◌∷◌, ◌++◌, length, take, drop, get_or, nat_cmp, is_eq, refl, sym, ap, ◌∙◌, subst, arith, append_assoc, add-one, drop-cons, length-take-le}
use Rattle.std.specs.Cmp.Lexicographic.{slice_cmp}
use Rattle.std.specs.Str.{bytes_eq}
use Rattle.std.proofs.Math.Seq.{drop-append_seam, take-append_seam}
use Rattle.std.proofs.lemmas.List.{take_more}
use Rattle.std.proofs.lemmas.List.Folds.{list_any-append}
use Rattle.std.proofs.lemmas.Map.Text.{is_eq-slice_cmp}
use Rattle.std.proofs.lemmas.Slice.Eq.{bytes_eq-Decides}
use Rattle.span_types.specs.declared.attrs.Attr.{Attr}
use Rattle.span_types.specs.Promises.{has_key}
use Rattle.otlp_spans.specs.Attributes.{firsts_behind}

-- the same keys
abbrev pub HasSameKeys : List Attr → List Attr → Type 0
HasSameKeys before kept = (key : List ℕ) → has_key key before ≡ has_key key kept

or-true : (b c : Bool) → (c ≡ true → b ≡ true) → (b || c) ≡ b
or-true true c h = refl
or-true false true h = sym (h refl)
or-true false false h = refl

or-false : (b : Bool) → (b || false) ≡ b
or-false true = refl
or-false false = refl

pub one_key : (key : List ℕ) (a : Attr) (attrs : List Attr) → has_key key (attrs ++ a ∷ []) ≡ (has_key key attrs || bytes_eq a.key key)
one_key key a attrs = list_any-append (λ x. bytes_eq x.key key) attrs (a ∷ []) ∙ ap (λ c. has_key key attrs || c) (or-false (bytes_eq a.key key))

-- a key that was there already
pub no_new_key : (a : Attr) (before kept : List Attr) → has_key a.key before ≡ true → HasSameKeys before kept → HasSameKeys (before ++ a ∷ []) kept
no_new_key a before kept there same key =
    one_key key a before
    ∙ or-true (has_key key before) (bytes_eq a.key key) (λ is. subst (λ k. has_key k before ≡ true) ((bytes_eq-Decides a.key key).0 is) there)
    ∙ same key

pub new_key : (a : Attr) (before kept : List Attr) → HasSameKeys before kept → HasSameKeys (before ++ a ∷ []) (kept ++ a ∷ [])
new_key a before kept same key = one_key key a before ∙ ap (λ b. b || bytes_eq a.key key) (same key) ∙ sym (one_key key a kept)

-- only the keys of those before count
same_firsts : (before kept later : List Attr) → HasSameKeys before kept → firsts_behind before later ≡ firsts_behind kept later
same_firsts before kept [] same = refl
same_firsts before kept (a ∷ later) same = rw (same a.key, same_firsts (before ++ a ∷ []) (kept ++ a ∷ []) later (new_key a before kept same)) refl

-- an attribute whose key was there already goes
repeated : (kept : List Attr) (a : Attr) (later : List Attr) → has_key a.key kept ≡ true → firsts_behind kept (a ∷ later) ≡ firsts_behind kept later
repeated kept a later is = rw is (same_firsts (kept ++ a ∷ []) kept later (no_new_key a kept kept is (λ key. refl)))

-- another stays
first_stays : (kept : List Attr) (a : Attr) (later : List Attr) → has_key a.key kept ≡ false
    → kept ++ firsts_behind kept (a ∷ later) ≡ (kept ++ a ∷ []) ++ firsts_behind (kept ++ a ∷ []) later
first_stays kept a later is = rw is (sym (append_assoc kept (a ∷ []) (firsts_behind (kept ++ a ∷ []) later)))

-- a key more in a set
or_of : (e b : Bool) → cond e true b ≡ (b || e)
or_of true true = refl
or_of true false = refl
or_of false true = refl
or_of false false = refl

pub key_added : (key q : List ℕ) (before : List Attr) (attr : Attr) (old new : Bool) → new ≡ cond (is_eq (slice_cmp nat_cmp key q)) true old → old ≡ has_key q before
    → attr.key ≡ key → new ≡ has_key q (before ++ attr ∷ [])
key_added key q before attr old new is has same =
    is
    ∙ ap (λ (e : Bool). cond e true old) (is_eq-slice_cmp key q)
    ∙ or_of (bytes_eq key q) old
    ∙ ap (λ (b : Bool). b || bytes_eq key q) has
    ∙ ap (λ (k : List ℕ). has_key q before || bytes_eq k q) (sym same)
    ∙ sym (one_key q attr before)

-- ---- in place: the first n are kept, and what follows them is still to be looked at

abbrev pub settled : ℕ → List Attr → List Attr
settled n l = take n l ++ firsts_behind (take n l) (drop n l)

cut : (n : ℕ) (xs ys : List Attr) → length xs ≡ n → (take n (xs ++ ys) ≡ xs) × (drop n (xs ++ ys) ≡ ys)
cut n xs ys is = subst (λ m. (take m (xs ++ ys) ≡ xs) × (drop m (xs ++ ys) ≡ ys)) is (take-append_seam xs ys, drop-append_seam xs ys)

split : (l : List Attr) (n : ℕ) (a : Attr) → n < length l → a ≡ get_or l n a → drop n l ≡ a ∷ drop (n + 1) l
split l n a low is = drop-cons l n a low ∙ ap (λ x. x ∷ drop (suc n) l) (sym is) ∙ ap (λ m. a ∷ drop m l) (sym (add-one n))

pub settled-removed : (l new : List Attr) (n : ℕ) (a : Attr) → n < length l → a ≡ get_or l n a → has_key a.key (take n l) ≡ true → new ≡ take n l ++ drop (n + 1) l
    → settled n l ≡ settled n new
settled-removed l new n a low is there removed =
    let parts = cut n (take n l) (drop (n + 1) l) (length-take-le n l (omega arith)) in
    let first : take n new ≡ take n l = ap (take n) removed ∙ parts.0 in
    let rest : drop n new ≡ drop (n + 1) l = ap (drop n) removed ∙ parts.1 in
    ap (λ x. take n l ++ firsts_behind (take n l) x) (split l n a low is)
    ∙ ap (λ x. take n l ++ x) (repeated (take n l) a (drop (n + 1) l) there)
    ∙ rw (first, rest) refl

pub settled-kept : (l : List Attr) (n : ℕ) (a : Attr) → n < length l → a ≡ get_or l n a → has_key a.key (take n l) ≡ false → settled n l ≡ settled (n + 1) l
settled-kept l n a low is new =
    let longer : take (n + 1) l ≡ take n l ++ a ∷ [] = take_more l n a low ∙ ap (λ x. take n l ++ x ∷ []) (sym is) in
    ap (λ x. take n l ++ firsts_behind (take n l) x) (split l n a low is)
    ∙ first_stays (take n l) a (drop (n + 1) l) new
    ∙ rw longer refl
