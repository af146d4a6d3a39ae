-- The laws of what stands in braces.
use Rattle.std.proofs.Common.{◌≡◌, ℕ, suc, Bool, true, false, List, [], ◌∷◌, ◌++◌, Option, Some, None, is_some, inl, inr, refl, sym, ◌∙◌, ap, subst, append_assoc}
use Rattle.traceql_tokens.specs.declared.fixed.Sign.{Sign}
use Rattle.traceql_tokens.specs.declared.fixed.Sign.TheVariants as sign
use Rattle.traceql_tokens.specs.declared.kinds.Token.{Token}
use Rattle.traceql_syntax.specs.Grammar.{mark, in_parens, in_braces, Whole_expression, SpellsCondition, SetClass, Part, Sets, under_set, SpellsSet}
use Rattle.traceql_syntax.specs.Grammar as rule
use Rattle.traceql_syntax.specs.Tables.{on_sign}
use Rattle.traceql_syntax.specs.Trees.{Placed}
use Rattle.traceql_parse.specs.declared.lookahead.Delimiter.TheVariants as delimiter
use Rattle.traceql_parse.specs.Descent as read
use Rattle.traceql_parse.specs.Reading.{next_sign, delimits, expect_sign}
use Rattle.traceql_parse.proofs.Laws.{Reader, Lang, Stops, IsSound, Keeps, Completes, Grows, Occurs, IsRefusing, Seq, next, next_keeps, next_sound, next_completes, next_refuses}
use Rattle.traceql_parse.proofs.Base.{never, One, at_sign, one_grows, sign_keeps, sign_sound, sign_completes, sign_refuses, same_keeps, same_sound, same_completes, same_refuses, Image, mapped, mapped_keeps, mapped_sound, mapped_completes, mapped_occurs, mapped_refuses}
use Rattle.traceql_parse.proofs.Choices.{local_sign, either, Either, either_keeps, either_sound, either_completes, either_refuses, stops_never}
use Rattle.traceql_parse.proofs.Group.{placing_some}
use Rattle.traceql_parse.proofs.Relabel.{relabel_sound, relabel_completes, relabel_refuses}
use Rattle.traceql_parse.proofs.Signs.{delimiter_token}
use Rattle.traceql_parse.proofs.Fields.{r_whole, Of, spells_grow}
use Rattle.traceql_parse.proofs.FieldLaws.{whole_keeps}
use Rattle.traceql_parse.proofs.FieldRefusals.{whole_goes, test_is, stops_here, delimiter_occurs, whole_completes, whole_refuses, whole_sound, whole_begins}

-- Braces.

abbrev pub close_brace : Reader (ℕ × Unit {0})
close_brace n ts = expect_sign (delimits delimiter.CloseBrace) ts

abbrev pub CloseBrace : Lang (ℕ × Unit {0})
CloseBrace = One (at_sign (delimits delimiter.CloseBrace))

abbrev pub open_brace : Reader (ℕ × Unit {0})
open_brace n ts = expect_sign (delimits delimiter.OpenBrace) ts

abbrev pub OpenBrace : Lang (ℕ × Unit {0})
OpenBrace = One (at_sign (delimits delimiter.OpenBrace))

abbrev pub r_condition : Reader (Option Placed)
r_condition n ts = read.condition n ts

abbrev pub r_braces : Reader (ℕ × Option Placed)
r_braces n ts = read.braces n ts

abbrev pub closes : List Token → Bool
closes ts = is_some (next_sign (delimits delimiter.CloseBrace) ts)

abbrev pub none_view : ℕ × Unit {0} → Option Placed
none_view c = None

abbrev pub some_view : Placed → ℕ × Unit {0} → Option Placed
some_view e c = Some e

abbrev pub no_condition : Reader (Option Placed)
no_condition = mapped none_view close_brace

abbrev pub NoCondition : Lang (Option Placed)
NoCondition = Image none_view CloseBrace

abbrev pub a_condition : Reader (Option Placed)
a_condition = next r_whole (λ e. mapped (some_view e) close_brace)

abbrev pub ACondition : Lang (Option Placed)
ACondition = Seq (Of Whole_expression) (λ e. Image (some_view e) CloseBrace)

abbrev pub ConditionLang : Lang (Option Placed)
ConditionLang = Either NoCondition ACondition

pub condition_is : (n : ℕ) (ts : List Token) → r_condition n ts ≡ either closes no_condition a_condition n ts
unfolding read.condition
condition_is n ts = refl

abbrev pub brace_view : ℕ × Unit {0} → Option Placed → ℕ × Option Placed
brace_view o c = (o.0, c)

abbrev pub BracesLang : Lang (ℕ × Option Placed)
BracesLang = Seq OpenBrace (λ o. Image (brace_view o) ConditionLang)

pub braces_is : (n : ℕ) (ts : List Token) → r_braces n ts ≡ next open_brace (λ o. mapped (brace_view o) r_condition) n ts
unfolding read.braces
braces_is n ts = refl

pub condition_keeps : Keeps r_condition
condition_keeps = same_keeps r_condition (either closes no_condition a_condition) ConditionLang condition_is
    (either_keeps closes (local_sign (delimits delimiter.CloseBrace)) no_condition a_condition NoCondition ACondition
    (mapped_keeps none_view close_brace CloseBrace (sign_keeps (delimits delimiter.CloseBrace)))
    (next_keeps r_whole (Of Whole_expression) (λ e. mapped (some_view e) close_brace) (λ e. Image (some_view e) CloseBrace) whole_keeps
    (λ e. mapped_keeps (some_view e) close_brace CloseBrace (sign_keeps (delimits delimiter.CloseBrace)))))

pub condition_sound : (n : ℕ) → IsSound r_condition ConditionLang n
condition_sound n = same_sound r_condition (either closes no_condition a_condition) ConditionLang condition_is n
    (either_sound closes (local_sign (delimits delimiter.CloseBrace)) no_condition a_condition NoCondition ACondition n
    (mapped_sound none_view close_brace CloseBrace n (sign_sound (delimits delimiter.CloseBrace) n))
    (next_sound r_whole (Of Whole_expression) (λ e. mapped (some_view e) close_brace) (λ e. Image (some_view e) CloseBrace) n (whole_sound n)
    (λ e. mapped_sound (some_view e) close_brace CloseBrace n (sign_sound (delimits delimiter.CloseBrace) n))))

brace_stops : (e : Placed) (n : ℕ) (a : Option Placed) (ys rest : List Token) → Image (some_view e) CloseBrace n a ys → Stops whole_goes (ys ++ rest)
brace_stops e n a ys rest i =
    let t = i.spelled.t in
    let w = delimiter_token delimiter.CloseBrace t i.of i.spelled.is in
    stops_here whole_goes (ys ++ rest) rest (mark t.at sign.CloseBrace) (ap (λ (z : List Token). z ++ rest) i.spelled.cut ∙ ap (λ (z : Token). z ∷ rest) w.0) refl

one_begins : {V : Type 0} (f : Sign → Option V) (n : ℕ) (v : ℕ × V) (front rest : List Token) → One (at_sign f) n v front → is_some (next_sign f (front ++ rest)) ≡ true
one_begins {V = V} f n v front rest o =
    test_is f (front ++ rest) rest o.t true (ap (λ (z : List Token). z ++ rest) o.cut) (ap (λ (w : Option V). is_some w) (placing_some o.t.at (on_sign f o.t.kind) v o.is))

-- an expression begins with no closing brace, and with no parenthesis but its own
whole_first : (n : ℕ) (e : Placed) (front rest : List Token) → Of Whole_expression n e front → closes (front ++ rest) ≡ false
whole_first n e front rest d = whole_begins n e front rest d

a_condition_first : (n : ℕ) (c : Option Placed) (front rest : List Token) → ACondition n c front → closes (front ++ rest) ≡ false
a_condition_first n c front rest s =
    ap closes (ap (λ (z : List Token). z ++ rest) s.cut ∙ append_assoc s.xs s.ys rest) ∙ whole_first n s.first s.xs (s.ys ++ rest) s.left

pub condition_completes : (n : ℕ) → Completes r_condition ConditionLang never n
condition_completes n = same_completes r_condition (either closes no_condition a_condition) ConditionLang condition_is never n
    (either_completes closes (local_sign (delimits delimiter.CloseBrace)) no_condition a_condition NoCondition ACondition never n
    (mapped_completes none_view close_brace CloseBrace never n (sign_completes (delimits delimiter.CloseBrace) n))
    (next_completes r_whole (Of Whole_expression) (λ e. mapped (some_view e) close_brace) (λ e. Image (some_view e) CloseBrace) whole_goes never n (whole_completes n)
    (λ e. mapped_completes (some_view e) close_brace CloseBrace never n (sign_completes (delimits delimiter.CloseBrace) n))
    (λ e a ys rest i s. brace_stops e n a ys rest i))
    (λ a front rest i s. one_begins (delimits delimiter.CloseBrace) n i.of front rest i.spelled)
    (λ a front rest d s. a_condition_first n a front rest d))

pub condition_refuses : (n : ℕ) → IsRefusing r_condition ConditionLang n
condition_refuses n = same_refuses r_condition (either closes no_condition a_condition) ConditionLang condition_is n
    (either_refuses closes (local_sign (delimits delimiter.CloseBrace)) no_condition a_condition NoCondition ACondition n
    (mapped_refuses none_view close_brace CloseBrace n (sign_refuses (delimits delimiter.CloseBrace) n))
    (next_refuses r_whole (Of Whole_expression) (λ e. mapped (some_view e) close_brace) (λ e. Image (some_view e) CloseBrace) n (spells_grow Whole_expression)
    (λ e. mapped_occurs (some_view e) close_brace CloseBrace (delimiter_occurs delimiter.CloseBrace)) (whole_sound n) (whole_refuses n)
    (λ e. mapped_refuses (some_view e) close_brace CloseBrace n (sign_refuses (delimits delimiter.CloseBrace) n))))

condition_occurs : Occurs ConditionLang
condition_occurs n = let o = delimiter_occurs delimiter.CloseBrace n in (None, o.1, inl (record { of = o.0; is = refl; spelled = o.2 }))

-- what braces hold, as the grammar has it
pub record Braced (n : ℕ) (x : ℕ × Option Placed) (ts : List Token) : Type 0 where
  pub xs : List Token
  pub closed : ℕ
  pub inside : SpellsCondition n x.1 xs
  pub cut : ts ≡ in_braces x.0 xs closed

inside_of : (n : ℕ) (c : Option Placed) (ys : List Token) → ConditionLang n c ys → (xs : List Token) × (closed : ℕ) × SpellsCondition n c xs × (ys ≡ xs ++ (mark closed sign.CloseBrace ∷ []))
inside_of n c ys (inl i) =
    let t = i.spelled.t in
    let w = delimiter_token delimiter.CloseBrace t i.of i.spelled.is in
    ([], t.at, subst (λ (z : Option Placed). SpellsCondition n z []) (sym i.is) rule.empty, i.spelled.cut ∙ ap (λ (z : Token). z ∷ []) w.0)
inside_of n c ys (inr s) =
    let i = s.right in
    let t = i.spelled.t in
    let w = delimiter_token delimiter.CloseBrace t i.of i.spelled.is in (
      s.xs,
      t.at,
      subst (λ (z : Option Placed). SpellsCondition n z s.xs) (sym i.is) (rule.condition s.left),
      s.cut ∙ ap (λ (z : List Token). s.xs ++ z) (i.spelled.cut ∙ ap (λ (z : Token). z ∷ []) w.0),
    )

pub braces_to : (n : ℕ) (x : ℕ × Option Placed) (ts : List Token) → BracesLang n x ts → Braced n x ts
braces_to n x ts s =
    let t = s.left.t in
    let w = delimiter_token delimiter.OpenBrace t s.first s.left.is in
    let k = inside_of n s.right.of s.ys s.right.spelled in
    let value : x ≡ (t.at, s.right.of) = s.right.is ∙ ap (λ (z : ℕ). (z, s.right.of)) w.1 in
    subst (λ (z : ℕ × Option Placed). Braced n z ts) (sym value) (record {
      xs = k.0;
      closed = k.1;
      inside = k.2;
      cut = s.cut ∙ ap (λ (z : List Token). z ++ s.ys) s.left.cut ∙ ap (λ (z : Token). z ∷ s.ys) w.0 ∙ ap (λ (z : List Token). mark t.at sign.OpenBrace ∷ z) k.3;
    })

outside_of : (n : ℕ) (c : Option Placed) (xs : List Token) (closed : ℕ) → SpellsCondition n c xs → ConditionLang n c (xs ++ (mark closed sign.CloseBrace ∷ []))
outside_of n c xs closed rule.empty = inl (record { of = (closed, tt); is = refl; spelled = record { t = mark closed sign.CloseBrace; cut = refl; is = refl } })
outside_of n c xs closed (rule.condition {e = e} d) = inr (record {
  first = e;
  xs = xs;
  ys = mark closed sign.CloseBrace ∷ [];
  cut = refl;
  left = d;
  right = record { of = (closed, tt); is = refl; spelled = record { t = mark closed sign.CloseBrace; cut = refl; is = refl } };
})

pub braces_from : (n : ℕ) (x : ℕ × Option Placed) (ts : List Token) → Braced n x ts → BracesLang n x ts
braces_from n x ts b = record {
  first = (x.0, tt);
  xs = mark x.0 sign.OpenBrace ∷ [];
  ys = b.xs ++ (mark b.closed sign.CloseBrace ∷ []);
  cut = b.cut;
  left = record { t = mark x.0 sign.OpenBrace; cut = refl; is = refl };
  right = record { of = x.1; is = refl; spelled = outside_of n x.1 b.xs b.closed b.inside };
}

abbrev pub in_brace : ℕ × Unit {0} → Reader (ℕ × Option Placed)
in_brace o = mapped (brace_view o) r_condition

abbrev pub InBrace : ℕ × Unit {0} → Lang (ℕ × Option Placed)
InBrace o = Image (brace_view o) ConditionLang

pub braces_keeps : Keeps r_braces
braces_keeps = same_keeps r_braces (next open_brace in_brace) BracesLang braces_is
    (next_keeps open_brace OpenBrace in_brace InBrace (sign_keeps (delimits delimiter.OpenBrace)) (λ o. mapped_keeps (brace_view o) r_condition ConditionLang condition_keeps))

pub braces_sound : (n : ℕ) → IsSound r_braces Braced n
braces_sound n = relabel_sound r_braces BracesLang Braced braces_to n (same_sound r_braces (next open_brace in_brace) BracesLang braces_is n
    (next_sound open_brace OpenBrace in_brace InBrace n (sign_sound (delimits delimiter.OpenBrace) n) (λ o. mapped_sound (brace_view o) r_condition ConditionLang n (condition_sound n))))

pub braces_completes : (n : ℕ) → Completes r_braces Braced never n
braces_completes n = relabel_completes r_braces BracesLang Braced braces_from never n (same_completes r_braces (next open_brace in_brace) BracesLang braces_is never n
    (next_completes open_brace OpenBrace in_brace InBrace never never n (sign_completes (delimits delimiter.OpenBrace) n) (λ o. mapped_completes (brace_view o) r_condition ConditionLang never n (condition_completes n)) (λ o b ys rest d s. stops_never (ys ++ rest))))

pub braces_refuses : (n : ℕ) → IsRefusing r_braces Braced n
braces_refuses n = relabel_refuses r_braces BracesLang Braced braces_to n (same_refuses r_braces (next open_brace in_brace) BracesLang braces_is n
    (next_refuses open_brace OpenBrace in_brace InBrace n (one_grows (at_sign (delimits delimiter.OpenBrace))) (λ o. mapped_occurs (brace_view o) r_condition ConditionLang condition_occurs)
    (sign_sound (delimits delimiter.OpenBrace) n) (sign_refuses (delimits delimiter.OpenBrace) n) (λ o. mapped_refuses (brace_view o) r_condition ConditionLang n (condition_refuses n))))

condition_grow : (n : ℕ) (c : Option Placed) (xs : List Token) → SpellsCondition n c xs → SpellsCondition (suc n) c xs
condition_grow n c xs rule.empty = rule.empty
condition_grow n c xs (rule.condition {e = e} d) = rule.condition (spells_grow Whole_expression n e xs d)

pub braces_grows : Grows Braced
braces_grows n x ts b = record { xs = b.xs; closed = b.closed; inside = condition_grow n x.1 b.xs b.inside; cut = b.cut }

pub braces_occurs : Occurs Braced
braces_occurs n = ((0, None), in_braces 0 [] 0, record { xs = []; closed = 0; inside = rule.empty; cut = refl })

pub braces_begin : (n : ℕ) (x : ℕ × Option Placed) (front rest : List Token) → Braced n x front → (us : List Token) × (front ++ rest ≡ mark x.0 sign.OpenBrace ∷ us)
braces_begin n x front rest b = ((b.xs ++ (mark b.closed sign.CloseBrace ∷ [])) ++ rest, ap (λ (z : List Token). z ++ rest) b.cut)
