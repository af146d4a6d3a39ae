-- The walk over an attribute finds just what the definition says.
use Rattle.std.proofs.Common.{◌≡◌, ℕ, ◌+◌, ◌<◌, ◌≤◌, Bool, true, false, not, ◌⊎◌, inl, inr, eqb, nat_eq, List, [], ◌∷◌, ◌++◌, length, get_or, drop, take, Option, None, Some, Ok, Err, take_while, unwrap_or, refl, ap, sym, ◌∙◌, subst, arith, eqb-true, append_assoc, length-append, take-append-drop, length-take-le}
use Rattle.std.specs.List.{prefix_len, list_all, starts_with}
use Rattle.std.proofs.lemmas.Bool.Decides.{nat_tests}
use Rattle.std.proofs.lemmas.List.{take_at, drop_at}
use Rattle.std.proofs.lemmas.List.Sums.{prefix_len-le-length, prefix_len_stops}
use Rattle.traceql_tokens.specs.Bytes.{ends_name, is_name_byte}
use Rattle.traceql_tokens.specs.Fixed.{scope_text}
use Rattle.traceql_tokens.specs.Strings.{IsString}
use Rattle.traceql_tokens.specs.StringWalk.{string_at}
use Rattle.traceql_tokens.specs.Tokens.{IsName, IsAttribute, IsTokenOf}
use Rattle.traceql_tokens.specs.Walk.{name_at, attribute_kind, attribute_at, word_at, token_at}
use Rattle.traceql_tokens.specs.declared.fixed.AttributeScope.{AttributeScope}
use Rattle.traceql_tokens.specs.declared.fixed.AttributeScope.TheVariants as scope
use Rattle.traceql_tokens.specs.declared.fixed.Word.{Word}
use Rattle.traceql_tokens.proofs.Prefixes.{both, starts_true}
use Rattle.traceql_tokens.proofs.NumberSteps.{run_passes}
use Rattle.traceql_tokens.proofs.StringLaws.{Value, string_sound}
use Rattle.traceql_tokens.proofs.StringReach.{Reaches, prefix_append, string_reach}
use Rattle.traceql_tokens.proofs.FixedLaws.{Tokened}
use Rattle.traceql_tokens.proofs.Ends.{End, before, whole, end_behind}

-- what ends a name is a character by itself
pub ends_low : (b : ℕ) → ends_name b ≡ true → b < 128
ends_low b h = grind (arith, nat_tests)

not_false : (x : Bool) → not x ≡ false → x ≡ true
not_false true h = refl
not_false false h = absurd (cc)

-- a name that was found, which may be empty
pub record Named (at : ℕ) (bs : List ℕ) (r : Value × ℕ) : Type 0 where
  pub word : List ℕ
  pub rest : List ℕ
  pub parted : bs ≡ word ++ rest
  pub size : r.1 ≡ length word
  pub is : IsName at word r.0
  pub end : End bs r.1

string_name : (at : ℕ) (w : List ℕ) (v : Value) → IsString at w v → IsName at w v
string_name at w (Ok name) h = inr h
string_name at w (Err f) h = h

below_or : (a b : ℕ) → (a < b) ⊎ (b ≤ a)
below_or a b = grind arith

pub name_end : (bs : List ℕ) → End bs (prefix_len is_name_byte bs)
name_end bs =
    let fits = prefix_len-le-length is_name_byte bs in
    elim (below_or (prefix_len is_name_byte bs) (length bs)) [
      | inl h ↦ before h (ends_low (get_or bs (prefix_len is_name_byte bs) 0) (not_false (ends_name (get_or bs (prefix_len is_name_byte bs) 0)) (prefix_len_stops is_name_byte bs 0 h)))
      | inr h ↦ whole (omega arith)
    ]

name_by : (at : ℕ) (bs : List ℕ) (o : Option (Value × ℕ)) → string_at at bs ≡ o → Named at bs (unwrap_or o (Ok (take_while is_name_byte bs), prefix_len is_name_byte bs))
name_by at bs (Some r) e =
    let f = string_sound at bs r e in
    record { word = f.word; rest = f.rest; parted = f.parted; size = f.size; is = string_name at f.word r.0 f.is; end = f.end }
name_by at bs None e =
    let n = prefix_len is_name_byte bs in
    record {
      word = take n bs;
      rest = drop n bs;
      parted = sym (take-append-drop n bs);
      size = sym (length-take-le n bs (prefix_len-le-length is_name_byte bs));
      is = inl (refl, run_passes is_name_byte bs);
      end = name_end bs;
    }

pub name_sound : (at : ℕ) (bs : List ℕ) → Named at bs (name_at at bs)
unfolding name_at
name_sound at bs = name_by at bs (string_at at bs) refl

attribute_is : (words : List Word) (at : ℕ) (text : List ℕ) (s : AttributeScope) (v : Value) → IsAttribute at text s v → IsTokenOf words at text (attribute_kind s v)
unfolding IsTokenOf attribute_kind
attribute_is words at text s (Ok []) h = (s, h)
attribute_is words at text s (Ok (b ∷ bs)) h = ((λ z. absurd (cc)), h)
attribute_is words at text s (Err f) h = (s, h)

scope_some : (s : AttributeScope) → 0 < length (scope_text s)
scope_some scope.Any = omega arith
scope_some scope.Span = omega arith
scope_some scope.Resource = omega arith
scope_some scope.Instrumentation = omega arith

pub attribute_sound : (words : List Word) (at : ℕ) (s : AttributeScope) (bs : List ℕ) → starts_with nat_eq bs (scope_text s) ≡ true → Tokened words at bs (attribute_at at s bs)
unfolding attribute_at
attribute_sound words at s bs h =
    let t = scope_text s in
    let n = length t in
    let front : bs ≡ t ++ drop n bs = starts_true bs t h in
    let found = name_sound (at + n) (drop n bs) in
    let v = name_at (at + n) (drop n bs) in
    record {
      word = t ++ found.word;
      rest = found.rest;
      parted = front ∙ ap (λ x. t ++ x) found.parted ∙ sym (append_assoc t found.word found.rest);
      size = omega (arith, found.size, length-append t found.word);
      is = attribute_is words at (t ++ found.word) s v.0 (record { rest = found.word; written = refl; named = found.is });
      end = end_behind bs n v.1 (omega (arith, ap length front, length-append t (drop n bs))) found.end;
      some = omega (arith, scope_some s);
    }

-- a name byte is no quote
name_unquoted : (b : ℕ) → is_name_byte b ≡ true → (eqb b 34 ≡ false) × (eqb b 96 ≡ false)
name_unquoted b h = (by_quote (eqb b 34) (eqb-true b 34), by_quote_back (eqb b 96) (eqb-true b 96))
  where
    by_quote : (t : Bool) → (t ≡ true → b ≡ 34) → t ≡ false
    by_quote false f = refl
    by_quote true f = let z : is_name_byte 34 ≡ true = ap is_name_byte (sym (f refl)) ∙ h in absurd (cc)

    by_quote_back : (t : Bool) → (t ≡ true → b ≡ 96) → t ≡ false
    by_quote_back false f = refl
    by_quote_back true f = let z : is_name_byte 96 ≡ true = ap is_name_byte (sym (f refl)) ∙ h in absurd (cc)

pub name_no_string : (at b : ℕ) (tl : List ℕ) → is_name_byte b ≡ true → string_at at (b ∷ tl) ≡ None
unfolding string_at
name_no_string at b tl h = let u = name_unquoted b h in rw (u.0, u.1) refl

-- what the walk over a name finds before a rest, against a text that is one
pub record NameReach (at : ℕ) (w rest : List ℕ) (v : Value) : Type 0 where
  pub far : length w ≤ (name_at at (w ++ rest)).1
  pub same : (name_at at (w ++ rest)).1 ≡ length w → (name_at at (w ++ rest)).0 ≡ v

bare_reach : (at : ℕ) (name rest : List ℕ) → list_all is_name_byte name ≡ true → string_at at (name ++ rest) ≡ None → NameReach at name rest (Ok name)
unfolding name_at
bare_reach at name rest h e =
    let n = prefix_append is_name_byte name rest h in
    let bare : Value × ℕ = (Ok (take_while is_name_byte (name ++ rest)), prefix_len is_name_byte (name ++ rest)) in
    let walked : unwrap_or (string_at at (name ++ rest)) bare ≡ bare = ap (λ o. unwrap_or o bare) e in
    record {
      far = subst (λ r. length name ≤ r.1) (sym walked) (omega arith);
      same = subst (λ r. r.1 ≡ length name → r.0 ≡ Ok name) (sym walked) (λ z. ap (λ k. Ok (take k (name ++ rest))) z ∙ ap Ok (take_at name rest (length name) refl));
    }

empty_reach : (at : ℕ) (rest : List ℕ) (o : Option (Value × ℕ)) → string_at at rest ≡ o → NameReach at [] rest (Ok [])
unfolding name_at
empty_reach at rest None e = bare_reach at [] rest refl e
empty_reach at rest (Some r) e =
    let some = (string_sound at rest r e).some in
    let bare : Value × ℕ = (Ok (take_while is_name_byte rest), prefix_len is_name_byte rest) in
    let walked : unwrap_or (string_at at rest) bare ≡ r = ap (λ o. unwrap_or o bare) e in
    record {
      far = omega arith;
      same = subst (λ q. q.1 ≡ 0 → q.0 ≡ Ok []) (sym walked) (λ z. absurd (omega arith));
    }

bare_name : (at : ℕ) (name rest : List ℕ) → list_all is_name_byte name ≡ true → NameReach at name rest (Ok name)
bare_name at [] rest h = empty_reach at rest (string_at at rest) refl
bare_name at (b ∷ bs) rest h = bare_reach at (b ∷ bs) rest h (name_no_string at b (bs ++ rest) (both (is_name_byte b) (list_all is_name_byte bs) h).0)

string_named : (at : ℕ) (w rest : List ℕ) (v : Value) → Reaches (string_at at) w rest v → NameReach at w rest v
unfolding name_at
string_named at w rest v r =
    let bare : Value × ℕ = (Ok (take_while is_name_byte (w ++ rest)), prefix_len is_name_byte (w ++ rest)) in
    let walked : unwrap_or (string_at at (w ++ rest)) bare ≡ r.found = ap (λ o. unwrap_or o bare) r.is in
    record {
      far = subst (λ q. length w ≤ q.1) (sym walked) r.far;
      same = subst (λ q. q.1 ≡ length w → q.0 ≡ v) (sym walked) r.same;
    }

name_reach : (at : ℕ) (w rest : List ℕ) (v : Value) → IsName at w v → NameReach at w rest v
name_reach at w rest (Ok name) (inl b) = subst (λ t. NameReach at t rest (Ok name)) (sym b.0) (bare_name at name rest b.1)
name_reach at w rest (Ok name) (inr s) = string_named at w rest (Ok name) (string_reach at w rest (Ok name) s)
name_reach at w rest (Err f) s = string_named at w rest (Err f) (string_reach at w rest (Err f) s)

-- the walk comes to the attributes
pub scope_comes : (s : AttributeScope) (words : List Word) (at : ℕ) (rest : List ℕ) → token_at words at (scope_text s ++ rest) ≡ Some (attribute_at at s (scope_text s ++ rest))
unfolding token_at word_at string_at
scope_comes scope.Any words at rest = refl
scope_comes scope.Span words at rest = refl
scope_comes scope.Resource words at rest = refl
scope_comes scope.Instrumentation words at rest = refl

pub attribute_reach : (words : List Word) (at : ℕ) (w rest : List ℕ) (s : AttributeScope) (v : Value) → IsAttribute at w s v → Reaches (token_at words at) w rest (attribute_kind s v)
unfolding attribute_at
attribute_reach words at w rest s v a =
    let t = scope_text s in
    let n = length t in
    let r = name_reach (at + n) a.rest rest v a.named in
    let text : w ++ rest ≡ t ++ (a.rest ++ rest) = ap (λ x. x ++ rest) a.written ∙ append_assoc t a.rest rest in
    let left : drop n (t ++ (a.rest ++ rest)) ≡ a.rest ++ rest = drop_at t (a.rest ++ rest) n refl in
    let found = name_at (at + n) (a.rest ++ rest) in
    let size : length w ≡ n + length a.rest = ap length a.written ∙ length-append t a.rest in
    record {
      found = (attribute_kind s found.0, n + found.1);
      is = ap (token_at words at) text ∙ scope_comes s words at (a.rest ++ rest) ∙ ap (λ x. Some (attribute_kind s (name_at (at + n) x).0, n + (name_at (at + n) x).1)) left;
      far = omega (arith, r.far);
      same = λ z. ap (attribute_kind s) (r.same (omega arith));
    }
