-- The laws of what stands in parentheses, of words and of aggregates.
use Rattle.std.proofs.Common.{◌≡◌, ℕ, suc, Bool, true, false, List, [], ◌∷◌, ◌++◌, Option, Some, option_map, is_some, refl, sym, ◌∙◌, ap, subst, append_assoc}
use Rattle.traceql_tokens.specs.declared.fixed.Sign.{Sign}
use Rattle.traceql_tokens.specs.declared.fixed.Sign.TheVariants as sign
use Rattle.traceql_tokens.specs.declared.kinds.Token.{Token}
use Rattle.traceql_tokens.specs.declared.kinds.TokenKind.{TokenKind}
use Rattle.traceql_tokens.specs.declared.kinds.TokenKind.TheVariants as token
use Rattle.traceql_syntax.specs.Grammar.{mark, keyword, in_parens, in_braces, Whole_expression, SpellsCondition, SpellsAggregate, SpellsThreshold, SpellsFields, SpellsStage, SpellsQuery}
use Rattle.traceql_syntax.specs.Grammar as rule
use Rattle.traceql_syntax.specs.Tables.{on_word, aggregate_word}
use Rattle.traceql_syntax.specs.declared.query.AggregateOp.{AggregateOp}
use Rattle.traceql_syntax.specs.declared.query.AggregateOp.TheVariants as aggregates
use Rattle.traceql_tokens.specs.declared.fixed.Word.{Word}
use Rattle.traceql_tokens.specs.declared.fixed.Word.TheVariants as word
use Rattle.traceql_syntax.specs.Trees.{AggregateTree, Count, Of as Aggregates}
use Rattle.traceql_parse.specs.declared.lookahead.Delimiter.TheVariants as delimiter
use Rattle.traceql_parse.specs.declared.lookahead.AggregateWord.{AggregateWord}
use Rattle.traceql_parse.specs.declared.lookahead.AggregateWord.TheVariants as aggregate_kind
use Rattle.traceql_parse.specs.declared.stop.Cause.{Cause}
use Rattle.traceql_parse.specs.declared.stop.Cause.TheVariants as cause
use Rattle.traceql_parse.specs.Descent as read
use Rattle.traceql_parse.specs.Reading.{next_sign, next_word, delimits, expect_sign, expect_word}
use Rattle.traceql_parse.proofs.Laws.{Reader, Lang, Stops, Fails, Bars, IsSound, Keeps, Completes, Grows, Occurs, IsRefusing, Seq, next, next_keeps, next_sound, next_completes, next_occurs, next_refuses}
use Rattle.traceql_parse.proofs.Base.{never, One, at_sign, placing, one_grows, at_word, sign_keeps, sign_sound, sign_completes, sign_refuses, word_keeps, word_sound, word_completes, word_refuses, same_keeps, same_sound, same_completes, same_refuses, Image, mapped, mapped_keeps, mapped_sound, mapped_completes, mapped_occurs, mapped_refuses}
use Rattle.traceql_parse.proofs.Choices.{deeper_suc, stops_never}
use Rattle.traceql_parse.proofs.Group.{pure, Pure, pure_keeps, pure_sound, pure_completes, pure_refuses, placing_some, some_in_place}
use Rattle.traceql_parse.proofs.Relabel.{relabel_sound, relabel_completes, relabel_refuses}
use Rattle.traceql_parse.proofs.Signs.{delimiter_token}
use Rattle.traceql_parse.proofs.Fields.{r_whole, Of, close, Close, spells_grow, occurs_whole}
use Rattle.traceql_parse.proofs.FieldLaws.{whole_keeps}
use Rattle.traceql_parse.proofs.FieldRefusals.{whole_goes, test_is, stops_here, delimiter_occurs, whole_completes, whole_refuses, whole_sound}
use Rattle.traceql_syntax.specs.Refusals.{healed}

-- The same reader where one construct more may be opened.

abbrev pub shifted : {A : Type 0} → Reader A → Reader A
shifted r n ts = r (suc n) ts

abbrev pub Shifted : {A : Type 0} → Lang A → Lang A
Shifted L n a ts = L (suc n) a ts

module _ {A : Type 0} (r : Reader A) (L : Lang A) where
  pub shifted_sound : (n : ℕ) → IsSound r L (suc n) → IsSound (shifted r) (Shifted L) n
  shifted_sound n s ts a rest e =
      let one = s ts a rest e in
      record { front = one.front; cut = one.cut; spelled = one.spelled; stable = (λ m other like. ap (λ k. r k (one.front ++ other)) (sym (deeper_suc m n)) ∙ one.stable m other like) }

  shifted_bars : (n : ℕ) (front rest : List Token) (why : Cause) → Bars r L (suc n) front rest why → Bars (shifted r) (Shifted L) n front rest why
  shifted_bars n front [] why b = b
  shifted_bars n front (t ∷ rest) cause.Unfinished b = b
  shifted_bars n front (t ∷ rest) cause.Unexpected b = λ m more. subst (λ k. Fails (r k (front ++ (healed t ∷ more)))) (deeper_suc m n) (b m more)
  shifted_bars n front (t ∷ rest) cause.Faulty b = b
  shifted_bars n front (t ∷ rest) cause.TooDeep b = b

  pub shifted_refuses : (n : ℕ) → IsRefusing r L (suc n) → IsRefusing (shifted r) (Shifted L) n
  shifted_refuses n q ts why rest e =
      let b = q ts why rest e in
      record { front = b.front; cut = b.cut; viable = b.viable; bars = shifted_bars n b.front rest why b.bars }

-- What stands in parentheses.

abbrev pub open_paren : Reader (ℕ × Unit {0})
open_paren n ts = expect_sign (delimits delimiter.OpenParen) ts

abbrev pub OpenParen : Lang (ℕ × Unit {0})
OpenParen = One (at_sign (delimits delimiter.OpenParen))

abbrev pub kept : {A : Type 0} → A → ℕ × Unit {0} → A
kept e c = e

abbrev pub inside : {A : Type 0} → Reader A → ℕ × Unit {0} → Reader A
inside p o = next p (λ e. mapped (kept e) close)

abbrev pub Inside : {A : Type 0} → Lang A → ℕ × Unit {0} → Lang A
Inside P o = Seq P (λ e. Image (kept e) Close)

abbrev pub parens_of : {A : Type 0} → Reader A → Reader A
parens_of p = next open_paren (inside p)

pub record Enclosed {A : Type 0} (P : Lang A) (n : ℕ) (a : A) (ts : List Token) : Type 0 where
  pub opened : ℕ
  pub closed : ℕ
  pub xs : List Token
  pub within : P n a xs
  pub cut : ts ≡ in_parens opened xs closed

abbrev EnclosedLang : {A : Type 0} → Lang A → Lang A
EnclosedLang P = Seq OpenParen (Inside P)

module _ {A : Type 0} (p : Reader A) (P : Lang A) where
  enclosed_to : (n : ℕ) (a : A) (ts : List Token) → EnclosedLang P n a ts → Enclosed P n a ts
  enclosed_to n a ts s =
      let t = s.left.t in
      let xs = s.right.xs in
      let i = s.right.right in
      let u = i.spelled.t in
      let first = delimiter_token delimiter.OpenParen t s.first s.left.is in
      let last = delimiter_token delimiter.CloseParen u i.of i.spelled.is in
      record {
        opened = t.at;
        closed = u.at;
        xs = xs;
        within = subst (λ (z : A). P n z xs) (sym i.is) s.right.left;
        cut = s.cut ∙ ap (λ (z : List Token). z ++ s.ys) s.left.cut ∙ ap (λ (z : List Token). t ∷ z) (s.right.cut ∙ ap (λ (z : List Token). xs ++ z) i.spelled.cut)
            ∙ ap (λ (z : Token). z ∷ (xs ++ (u ∷ []))) first.0 ∙ ap (λ (z : Token). mark t.at sign.OpenParen ∷ (xs ++ (z ∷ []))) last.0;
      }

  enclosed_from : (n : ℕ) (a : A) (ts : List Token) → Enclosed P n a ts → EnclosedLang P n a ts
  enclosed_from n a ts e = record {
    first = (e.opened, tt);
    xs = mark e.opened sign.OpenParen ∷ [];
    ys = e.xs ++ (mark e.closed sign.CloseParen ∷ []);
    cut = e.cut;
    left = record { t = mark e.opened sign.OpenParen; cut = refl; is = refl };
    right = record {
      first = a;
      xs = e.xs;
      ys = mark e.closed sign.CloseParen ∷ [];
      cut = refl;
      left = e.within;
      right = record { of = (e.closed, tt); is = refl; spelled = record { t = mark e.closed sign.CloseParen; cut = refl; is = refl } };
    };
  }

  pub enclosed_keeps : Keeps p → Keeps (parens_of p)
  enclosed_keeps k = next_keeps open_paren OpenParen (inside p) (Inside P) (sign_keeps (delimits delimiter.OpenParen))
      (λ o. next_keeps p P (λ e. mapped (kept e) close) (λ e. Image (kept e) Close) k (λ e. mapped_keeps (kept e) close Close (sign_keeps (delimits delimiter.CloseParen))))

  pub enclosed_sound : (n : ℕ) → IsSound p P n → IsSound (parens_of p) (Enclosed P) n
  enclosed_sound n s = relabel_sound (parens_of p) (EnclosedLang P) (Enclosed P) enclosed_to n
      (next_sound open_paren OpenParen (inside p) (Inside P) n (sign_sound (delimits delimiter.OpenParen) n)
      (λ o. next_sound p P (λ e. mapped (kept e) close) (λ e. Image (kept e) Close) n s (λ e. mapped_sound (kept e) close Close n (sign_sound (delimits delimiter.CloseParen) n))))

  close_stops : (g : TokenKind → Bool) → g (token.Mark sign.CloseParen) ≡ false → (e : A) (n : ℕ) (a : A) (ys rest : List Token) → Image (kept e) Close n a ys → Stops g (ys ++ rest)
  close_stops g h e n a ys rest i =
      let t = i.spelled.t in
      let w = delimiter_token delimiter.CloseParen t i.of i.spelled.is in
      stops_here g (ys ++ rest) rest (mark t.at sign.CloseParen) (ap (λ (z : List Token). z ++ rest) i.spelled.cut ∙ ap (λ (z : Token). z ∷ rest) w.0) h

  pub enclosed_completes : (g : TokenKind → Bool) → g (token.Mark sign.CloseParen) ≡ false → (n : ℕ) → Completes p P g n → Completes (parens_of p) (Enclosed P) never n
  enclosed_completes g h n c = relabel_completes (parens_of p) (EnclosedLang P) (Enclosed P) enclosed_from never n
      (next_completes open_paren OpenParen (inside p) (Inside P) never never n (sign_completes (delimits delimiter.OpenParen) n)
      (λ o. next_completes p P (λ e. mapped (kept e) close) (λ e. Image (kept e) Close) g never n c
      (λ e. mapped_completes (kept e) close Close never n (sign_completes (delimits delimiter.CloseParen) n)) (λ e a ys rest i s. close_stops g h e n a ys rest i))
      (λ o b ys rest d s. stops_never (ys ++ rest)))

  pub enclosed_refuses : (n : ℕ) → Grows P → Occurs P → IsSound p P n → IsRefusing p P n → IsRefusing (parens_of p) (Enclosed P) n
  enclosed_refuses n gp op sp rp = relabel_refuses (parens_of p) (EnclosedLang P) (Enclosed P) enclosed_to n
      (next_refuses open_paren OpenParen (inside p) (Inside P) n (one_grows (at_sign (delimits delimiter.OpenParen)))
      (λ o. next_occurs p P (λ e. mapped (kept e) close) (λ e. Image (kept e) Close) op (λ e. mapped_occurs (kept e) close Close (delimiter_occurs delimiter.CloseParen)))
      (sign_sound (delimits delimiter.OpenParen) n) (sign_refuses (delimits delimiter.OpenParen) n)
      (λ o. next_refuses p P (λ e. mapped (kept e) close) (λ e. Image (kept e) Close) n gp
      (λ e. mapped_occurs (kept e) close Close (delimiter_occurs delimiter.CloseParen)) sp rp (λ e. mapped_refuses (kept e) close Close n (sign_refuses (delimits delimiter.CloseParen) n))))

  pub enclosed_grows : Grows P → Grows (Enclosed P)
  enclosed_grows gp n a ts e = record { opened = e.opened; closed = e.closed; xs = e.xs; within = gp n a e.xs e.within; cut = e.cut }

  pub enclosed_occurs : Occurs P → Occurs (Enclosed P)
  enclosed_occurs op n = let o = op n in (o.0, in_parens 0 o.1 0, record { opened = 0; closed = 0; xs = o.1; within = o.2; cut = refl })

-- Words.

pub worded_kind : {V : Type 0} (f : Word → Option V) (k : TokenKind) (v : V) → on_word f k ≡ Some v → (w : Word) × (k ≡ token.Keyword w) × (f w ≡ Some v)
worded_kind f (token.Keyword w) v h = (w, refl, h)
worded_kind f _ v h = cc

pub word_token : {V : Type 0} (f : Word → Option V) (t : Token) (x : ℕ × V) → at_word f t.at t.kind ≡ Some x → (w : Word) × (t ≡ keyword t.at w) × (f w ≡ Some x.1)
word_token {V = V} f t x h =
    let w = worded_kind f t.kind x.1 (placing_some t.at (on_word f t.kind) x h) in
    (w.0, ap (λ (k : TokenKind). let u : Token = record { at = t.at; kind = k } in u) w.1, w.2)

pub word_test_is : {V : Type 0} (f : Word → Option V) (ts us : List Token) (t : Token) (b : Bool) → ts ≡ t ∷ us → is_some (on_word f t.kind) ≡ b → is_some (next_word f ts) ≡ b
word_test_is f ts us t b e h = ap (λ (z : List Token). is_some (next_word f z)) e ∙ some_in_place t.at us (on_word f t.kind) ∙ h

-- a sentence that begins with a word of one table doesn't begin with one of a table apart from it, nor with a sign
pub word_begins : {V : Type 0} (f : Word → Option V) (n : ℕ) (v : ℕ × V) (front rest : List Token) → One (at_word f) n v front → is_some (next_word f (front ++ rest)) ≡ true
word_begins {V = V} f n v front rest o =
    word_test_is f (front ++ rest) rest o.t true (ap (λ (z : List Token). z ++ rest) o.cut) (ap (λ (w : Option V). is_some w) (placing_some o.t.at (on_word f o.t.kind) v o.is))

pub other_word : {V W : Type 0} (f : Word → Option V) (g : Word → Option W) → ((w : Word) (v : V) → f w ≡ Some v → is_some (g w) ≡ false) → (n : ℕ) (v : ℕ × V) (front rest : List Token) → One (at_word f) n v front → is_some (next_word g (front ++ rest)) ≡ false
other_word f g apart n v front rest o =
    let w = word_token f o.t v o.is in
    word_test_is g (front ++ rest) rest (keyword o.t.at w.0) false (ap (λ (z : List Token). z ++ rest) o.cut ∙ ap (λ (z : Token). z ∷ rest) w.1) (apart w.0 v.1 w.2)

pub word_no_sign : {V W : Type 0} (f : Word → Option V) (g : Sign → Option W) (n : ℕ) (v : ℕ × V) (front rest : List Token) → One (at_word f) n v front → is_some (next_sign g (front ++ rest)) ≡ false
word_no_sign f g n v front rest o =
    let w = word_token f o.t v o.is in
    test_is g (front ++ rest) rest (keyword o.t.at w.0) false (ap (λ (z : List Token). z ++ rest) o.cut ∙ ap (λ (z : Token). z ∷ rest) w.1) refl

-- Aggregates.

abbrev pub r_nothing : Reader (Unit {0})
r_nothing = pure tt

abbrev pub Nothing : Lang (Unit {0})
Nothing = Pure tt

abbrev pub counted : Unit {0} → AggregateTree
counted x = Count

abbrev pub r_aggregate : Reader AggregateTree
r_aggregate n ts = read.aggregate_at n ts

abbrev pub aggregate_side : ℕ × AggregateWord → Reader AggregateTree
aggregate_side w n ts = read.aggregate_rest n w.1 ts

abbrev pub SideFor : AggregateWord → Lang AggregateTree
SideFor aggregate_kind.Count = Image counted (Enclosed Nothing)
SideFor (aggregate_kind.Of op) = Image (Aggregates op) (Enclosed (Of Whole_expression))

abbrev pub AggregateSide : ℕ × AggregateWord → Lang AggregateTree
AggregateSide w = SideFor w.1

abbrev pub r_word : Reader (ℕ × AggregateWord)
r_word n ts = expect_word read.aggregate_word_of ts

abbrev pub AWord : Lang (ℕ × AggregateWord)
AWord = One (at_word read.aggregate_word_of)

abbrev pub AggregateLang : Lang AggregateTree
AggregateLang = Seq AWord AggregateSide

abbrev pub AggregateOf : Lang AggregateTree
AggregateOf n a ts = SpellsAggregate (suc n) a ts

pub aggregate_is : (n : ℕ) (ts : List Token) → r_aggregate n ts ≡ next r_word aggregate_side n ts
unfolding read.aggregate_at
aggregate_is n ts = refl

recast : (n : ℕ) (a b : AggregateTree) (ts us : List Token) → b ≡ a → us ≡ ts → SpellsAggregate n a ts → SpellsAggregate n b us
recast n a b ts us e k d = subst (λ (z : AggregateTree). SpellsAggregate n z us) (sym e) (subst (λ (z : List Token). SpellsAggregate n a z) (sym k) d)

of_word : (w : Word) (op : AggregateOp) → read.aggregate_word_of w ≡ Some (aggregate_kind.Of op) → aggregate_word w ≡ Some op
of_word word.Count op h = cc
of_word word.Avg op h = let same : aggregate_kind.Of aggregates.Average ≡ aggregate_kind.Of op = cc in ap Some (cc (same))
of_word word.Min op h = let same : aggregate_kind.Of aggregates.Least ≡ aggregate_kind.Of op = cc in ap Some (cc (same))
of_word word.Max op h = let same : aggregate_kind.Of aggregates.Greatest ≡ aggregate_kind.Of op = cc in ap Some (cc (same))
of_word word.Sum op h = let same : aggregate_kind.Of aggregates.Sum ≡ aggregate_kind.Of op = cc in ap Some (cc (same))
of_word _ op h = cc

count_word : (w : Word) → read.aggregate_word_of w ≡ Some aggregate_kind.Count → w ≡ word.Count
count_word word.Count h = refl
count_word word.Avg h = cc
count_word word.Min h = cc
count_word word.Max h = cc
count_word word.Sum h = cc
count_word _ h = cc

word_of : (w : Word) (op : AggregateOp) → aggregate_word w ≡ Some op → read.aggregate_word_of w ≡ Some (aggregate_kind.Of op)
word_of word.Count op h = cc
word_of word.Avg op h = ap (λ (o : Option AggregateOp). option_map aggregate_kind.Of o) h
word_of _ op h = ap (λ (o : Option AggregateOp). option_map aggregate_kind.Of o) h

aggregate_with : (n : ℕ) (a : AggregateTree) (ts ys : List Token) (t : Token) (v : ℕ × AggregateWord) (w : AggregateWord) → v.1 ≡ w → ts ≡ t ∷ ys → at_word read.aggregate_word_of t.at t.kind ≡ Some v → SideFor w n a ys → SpellsAggregate (suc n) a ts
aggregate_with n a ts ys t v aggregate_kind.Count is cut h i =
    let k = word_token read.aggregate_word_of t v h in
    let named : k.0 ≡ word.Count = count_word k.0 (k.2 ∙ ap (λ (z : AggregateWord). Some z) is) in
    let e = i.spelled in
    recast (suc n) Count a (keyword t.at word.Count ∷ in_parens e.opened [] e.closed) ts i.is
    (cut ∙ ap (λ (z : Token). z ∷ ys) (k.1 ∙ ap (keyword t.at) named) ∙ ap (λ (z : List Token). keyword t.at word.Count ∷ z) (e.cut ∙ ap (λ (z : List Token). in_parens e.opened z e.closed) e.within.1))
    (rule.count t.at e.opened e.closed)
aggregate_with n a ts ys t v (aggregate_kind.Of op) is cut h i =
    let k = word_token read.aggregate_word_of t v h in
    let e = i.spelled in
    recast (suc n) (Aggregates op i.of) a (keyword t.at k.0 ∷ in_parens e.opened e.xs e.closed) ts i.is
    (cut ∙ ap (λ (z : Token). z ∷ ys) k.1 ∙ ap (λ (z : List Token). keyword t.at k.0 ∷ z) e.cut)
    (rule.of t.at k.0 e.opened e.closed (of_word k.0 op (k.2 ∙ ap (λ (z : AggregateWord). Some z) is)) e.within)

pub aggregate_to : (n : ℕ) (a : AggregateTree) (ts : List Token) → AggregateLang n a ts → AggregateOf n a ts
aggregate_to n a ts s = aggregate_with n a ts s.ys s.left.t s.first s.first.1 refl (s.cut ∙ ap (λ (z : List Token). z ++ s.ys) s.left.cut) s.left.is s.right

pub aggregate_from : (n : ℕ) (a : AggregateTree) (ts : List Token) → AggregateOf n a ts → AggregateLang n a ts
aggregate_from n a ts (rule.count at opened closed) = record {
  first = (at, aggregate_kind.Count);
  xs = keyword at word.Count ∷ [];
  ys = in_parens opened [] closed;
  cut = refl;
  left = record { t = keyword at word.Count; cut = refl; is = refl };
  right = record { of = tt; is = refl; spelled = record { opened = opened; closed = closed; xs = []; within = (refl, refl); cut = refl } };
}
aggregate_from n a ts (rule.of {op = op} {e = e} {ts = xs} at w opened closed h d) = record {
  first = (at, aggregate_kind.Of op);
  xs = keyword at w ∷ [];
  ys = in_parens opened xs closed;
  cut = refl;
  left = record { t = keyword at w; cut = refl; is = ap (placing at) (word_of w op h) };
  right = record { of = e; is = refl; spelled = record { opened = opened; closed = closed; xs = xs; within = d; cut = refl } };
}

side_keeps : (w : AggregateWord) → Keeps (λ n ts. read.aggregate_rest n w ts)
side_keeps aggregate_kind.Count = mapped_keeps counted (parens_of r_nothing) (Enclosed Nothing) (enclosed_keeps r_nothing Nothing (pure_keeps tt))
side_keeps (aggregate_kind.Of op) = mapped_keeps (Aggregates op) (parens_of r_whole) (Enclosed (Of Whole_expression)) (enclosed_keeps r_whole (Of Whole_expression) whole_keeps)

side_sound : (w : AggregateWord) (n : ℕ) → IsSound (λ n ts. read.aggregate_rest n w ts) (SideFor w) n
side_sound aggregate_kind.Count n = mapped_sound counted (parens_of r_nothing) (Enclosed Nothing) n (enclosed_sound r_nothing Nothing n (pure_sound tt n))
side_sound (aggregate_kind.Of op) n = mapped_sound (Aggregates op) (parens_of r_whole) (Enclosed (Of Whole_expression)) n (enclosed_sound r_whole (Of Whole_expression) n (whole_sound n))

side_completes : (w : AggregateWord) (n : ℕ) → Completes (λ n ts. read.aggregate_rest n w ts) (SideFor w) never n
side_completes aggregate_kind.Count n = mapped_completes counted (parens_of r_nothing) (Enclosed Nothing) never n (enclosed_completes r_nothing Nothing never refl n (pure_completes tt never n))
side_completes (aggregate_kind.Of op) n = mapped_completes (Aggregates op) (parens_of r_whole) (Enclosed (Of Whole_expression)) never n (enclosed_completes r_whole (Of Whole_expression) whole_goes refl n (whole_completes n))

nothing_occurs : Occurs Nothing
nothing_occurs n = (tt, [], (refl, refl))

side_refuses : (w : AggregateWord) (n : ℕ) → IsRefusing (λ n ts. read.aggregate_rest n w ts) (SideFor w) n
side_refuses aggregate_kind.Count n = mapped_refuses counted (parens_of r_nothing) (Enclosed Nothing) n (enclosed_refuses r_nothing Nothing n (λ m a ts d. d) nothing_occurs (pure_sound tt n) (pure_refuses tt n))
side_refuses (aggregate_kind.Of op) n = mapped_refuses (Aggregates op) (parens_of r_whole) (Enclosed (Of Whole_expression)) n (enclosed_refuses r_whole (Of Whole_expression) n (spells_grow Whole_expression) occurs_whole (whole_sound n) (whole_refuses n))

side_occurs : (w : AggregateWord) → Occurs (SideFor w)
side_occurs aggregate_kind.Count = mapped_occurs counted (parens_of r_nothing) (Enclosed Nothing) (enclosed_occurs r_nothing Nothing nothing_occurs)
side_occurs (aggregate_kind.Of op) = mapped_occurs (Aggregates op) (parens_of r_whole) (Enclosed (Of Whole_expression)) (enclosed_occurs r_whole (Of Whole_expression) occurs_whole)

pub aggregate_keeps : Keeps r_aggregate
aggregate_keeps = same_keeps r_aggregate (next r_word aggregate_side) AggregateLang aggregate_is (next_keeps r_word AWord aggregate_side AggregateSide (word_keeps read.aggregate_word_of) (λ w. side_keeps w.1))

pub aggregate_sound : (n : ℕ) → IsSound r_aggregate AggregateOf n
aggregate_sound n = relabel_sound r_aggregate AggregateLang AggregateOf aggregate_to n (same_sound r_aggregate (next r_word aggregate_side) AggregateLang aggregate_is n
    (next_sound r_word AWord aggregate_side AggregateSide n (word_sound read.aggregate_word_of n) (λ w. side_sound w.1 n)))

pub aggregate_completes : (n : ℕ) → Completes r_aggregate AggregateOf never n
aggregate_completes n = relabel_completes r_aggregate AggregateLang AggregateOf aggregate_from never n (same_completes r_aggregate (next r_word aggregate_side) AggregateLang aggregate_is never n
    (next_completes r_word AWord aggregate_side AggregateSide never never n (word_completes read.aggregate_word_of n) (λ w. side_completes w.1 n) (λ w b ys rest d s. stops_never (ys ++ rest))))

pub aggregate_refuses : (n : ℕ) → IsRefusing r_aggregate AggregateOf n
aggregate_refuses n = relabel_refuses r_aggregate AggregateLang AggregateOf aggregate_to n (same_refuses r_aggregate (next r_word aggregate_side) AggregateLang aggregate_is n
    (next_refuses r_word AWord aggregate_side AggregateSide n (one_grows (at_word read.aggregate_word_of)) (λ w. side_occurs w.1) (word_sound read.aggregate_word_of n) (word_refuses read.aggregate_word_of n) (λ w. side_refuses w.1 n)))

pub aggregate_grows : Grows AggregateOf
aggregate_grows n a ts (rule.count at opened closed) = rule.count at opened closed
aggregate_grows n a ts (rule.of {e = e} {ts = xs} at w opened closed h d) = rule.of at w opened closed h (spells_grow Whole_expression n e xs d)

pub aggregate_occurs : Occurs AggregateOf
aggregate_occurs n = (Count, keyword 0 word.Count ∷ in_parens 0 [] 0, rule.count 0 0 0)

pub aggregate_begins : (n : ℕ) (a : AggregateTree) (front rest : List Token) → AggregateOf n a front → (v : ℕ × AggregateWord) × (xs ys : List Token) × AWord n v xs × (front ++ rest ≡ xs ++ (ys ++ rest))
aggregate_begins n a front rest d =
    let s = aggregate_from n a front d in
    (s.first, s.xs, s.ys, s.left, ap (λ (z : List Token). z ++ rest) s.cut ∙ append_assoc s.xs s.ys rest)
