-- The laws of a head with items after it, and of reading nothing.
use Rattle.std.proofs.Common.{◌≡◌, ℕ, zero, suc, ◌<◌, ◌≤◌, Bool, true, false, List, [], ◌∷◌, ◌++◌, length, Option, Some, None, is_some, Ok, Err, inl, inr, refl, sym, ◌∙◌, ap, subst, append_assoc, append-nil, arith}
use Rattle.traceql_tokens.specs.declared.fixed.Sign.{Sign}
use Rattle.traceql_tokens.specs.declared.kinds.Token.{Token}
use Rattle.traceql_tokens.specs.declared.kinds.TokenKind.{TokenKind}
use Rattle.traceql_syntax.specs.Refusals.{healed}
use Rattle.traceql_syntax.specs.Tables.{on_sign}
use Rattle.traceql_parse.specs.declared.stop.Cause.{Cause}
use Rattle.traceql_parse.specs.declared.stop.Cause.TheVariants as cause
use Rattle.traceql_parse.specs.Reading.{Answer, ◌>>=◌, next_sign, expect_sign, turns, items}
use Rattle.traceql_parse.proofs.Items.{Shrinks, turns_stop, turns_on, items_stop, items_fail, items_step}
use Rattle.traceql_parse.proofs.Laws.{Reader, Lang, Stops, deeper, Alike, alike_front, alike_healed, Took, IsSound, Keeps, Completes, Grows, Occurs, Starts, Viable, Fails, Bars, Barred, IsRefusing, bind_ok, Seq}
use Rattle.traceql_parse.proofs.Base.{One, at_sign, placing, placing_before, sign_sound, ok_inj, err_inj, not_err, wrong}
use Rattle.traceql_parse.proofs.Choices.{Local, local_sign, local_behind}

-- Reading nothing.

abbrev pub pure : {A : Type 0} → A → Reader A
pure a n ts = Ok (a, ts)

abbrev pub Pure : {A : Type 0} → A → Lang A
Pure a n b ts = (b ≡ a) × (ts ≡ [])

pub pure_keeps : {A : Type 0} (a : A) → Keeps (pure a)
pure_keeps {A = A} a n ts x e =
    let same : ◌≡◌ {A = A × List Token} (a, ts) x = ok_inj {A = A} (Ok (a, ts)) (a, ts) x refl e in
    let long : length ts ≡ length x.1 = ap (λ (z : A × List Token). length z.1) same in
    omega arith

pub pure_sound : {A : Type 0} (a : A) (n : ℕ) → IsSound (pure a) (Pure a) n
pure_sound {A = A} a n ts b rest e =
    let same : ◌≡◌ {A = A × List Token} (a, ts) (b, rest) = ok_inj {A = A} (Ok (a, ts)) (a, ts) (b, rest) refl e in
    record {
      front = [];
      cut = ap (λ (z : A × List Token). z.1) same;
      spelled = (sym (ap (λ (z : A × List Token). z.0) same), refl);
      stable = (λ m other like. ap (λ (z : A × List Token). Ok (z.0, other)) same);
    }

pub pure_completes : {A : Type 0} (a : A) (g : TokenKind → Bool) (n : ℕ) → Completes (pure a) (Pure a) g n
pure_completes a g n b front rest d stop = ap (λ (z : List Token). Ok (a, z ++ rest)) d.1 ∙ ap (λ z. Ok (z, rest)) (sym d.0)

pub pure_refuses : {A : Type 0} (a : A) (n : ℕ) → IsRefusing (pure a) (Pure a) n
pure_refuses {A = A} a n ts why rest e = not_err {A = A} (a, ts) (why, rest) e

-- Items.

pub data Tail {A B : Type 0} (M : Lang B) (join : A → B → A) (n : ℕ) : A → A → List Token → Type 0 where
  done : {a : A} → Tail M join n a a []
  turn : {a c : A} {b : B} {ys zs ts : List Token} → ts ≡ ys ++ zs → M n b ys → Tail M join n (join a b) c zs → Tail M join n a c ts

abbrev pub repeated : {A B : Type 0} → (List Token → Bool) → Reader B → (A → B → A) → A → Reader A
repeated begin item join a n ts = items begin (item n) join a ts

abbrev pub Repeated : {A B : Type 0} → Lang B → (A → B → A) → A → Lang A
Repeated M join a n d ts = Tail M join n a d ts

module _ {A B : Type 0} (begin : List Token → Bool) (local : Local begin) (item : Reader B) (M : Lang B) (join : A → B → A) (shrinks : (n : ℕ) → Shrinks (item n)) where
  turns_keep : (n k : ℕ) (a : A) (ts : List Token) (x : A × List Token) → turns begin (item n) join k a ts ≡ Ok x → length x.1 ≤ length ts
  turns_keep n zero a ts x e =
      let same : ◌≡◌ {A = A × List Token} (a, ts) x = ok_inj {A = A} (Ok (a, ts)) (a, ts) x refl e in
      let long : length ts ≡ length x.1 = ap (λ (z : A × List Token). length z.1) same in
      omega arith
  turns_keep n (suc k) a ts x e = keep_test n k a ts x e (begin ts) refl (turns_keep n k)
    where
      keep_item : (n k : ℕ) (a : A) (ts : List Token) (x : A × List Token) (r : Answer B) → item n ts ≡ r → (r >>= λ y. turns begin (item n) join k (join a y.0) y.1) ≡ Ok x → ((a : A) (ts : List Token) (x : A × List Token) → turns begin (item n) join k a ts ≡ Ok x → length x.1 ≤ length ts) → length x.1 ≤ length ts
      keep_item n k a ts x (Ok y) h e again =
          let one : length y.1 < length ts = shrinks n ts y h in
          let two : length x.1 ≤ length y.1 = again (join a y.0) y.1 x e in
          omega arith
      keep_item n k a ts x (Err d) h e again = cc

      keep_test : (n k : ℕ) (a : A) (ts : List Token) (x : A × List Token) → turns begin (item n) join (suc k) a ts ≡ Ok x → (b : Bool) → begin ts ≡ b → ((a : A) (ts : List Token) (x : A × List Token) → turns begin (item n) join k a ts ≡ Ok x → length x.1 ≤ length ts) → length x.1 ≤ length ts
      keep_test n k a ts x e true t again = keep_item n k a ts x (item n ts) refl (sym (turns_on begin (item n) join k a ts (item n ts) t refl) ∙ e) again
      keep_test n k a ts x e false t again =
          let same : ◌≡◌ {A = A × List Token} (a, ts) x = ok_inj {A = A} (turns begin (item n) join (suc k) a ts) (a, ts) x (turns_stop begin (item n) join (suc k) a ts t) e in
          let long : length ts ≡ length x.1 = ap (λ (z : A × List Token). length z.1) same in
          omega arith

  pub repeated_keeps : (a : A) → Keeps (repeated begin item join a)
  unfolding items
  repeated_keeps a n ts x e = turns_keep n (length ts) a ts x e

  -- one turn, wherever more may be opened
  step_at : (n : ℕ) (a : A) (b : B) (ys after : List Token) → begin (ys ++ after) ≡ true → item n (ys ++ after) ≡ Ok (b, after) → repeated begin item join a n (ys ++ after) ≡ repeated begin item join (join a b) n after
  step_at n a b ys after t h = items_step begin (item n) join local.none (shrinks n) a (ys ++ after) (b, after) t h

  begins_behind : (ts front rest other : List Token) → ts ≡ front ++ rest → begin ts ≡ true → Alike rest other → begin (front ++ other) ≡ true
  begins_behind ts front rest other cut t like = local.same (front ++ rest) (front ++ other) (alike_front front rest other like) ∙ sym (ap begin cut) ∙ t

  stopped : (n : ℕ) (a : A) (ts : List Token) (d : A) (rest : List Token) → begin ts ≡ false → ◌≡◌ {A = A × List Token} (a, ts) (d, rest) → Took (repeated begin item join a) (Repeated M join a) n ts d rest
  stopped n a ts d rest t same =
      subst (λ (z : A × List Token). Took (repeated begin item join a) (Repeated M join a) n ts z.0 z.1) same
      (record { front = []; cut = refl; spelled = done; stable = (λ m other like. items_stop begin (item (deeper m n)) join a other (local.same ts other like ∙ t)) })

  turned : (n : ℕ) (a : A) (ts : List Token) (b : B) (after : List Token) (d : A) (rest : List Token) → begin ts ≡ true → Took item M n ts b after → Took (repeated begin item join (join a b)) (Repeated M join (join a b)) n after d rest → Took (repeated begin item join a) (Repeated M join a) n ts d rest
  turned n a ts b after d rest t one two = record {
    front = one.front ++ two.front;
    cut = one.cut ∙ ap (λ (z : List Token). one.front ++ z) two.cut ∙ sym (append_assoc one.front two.front rest);
    spelled = turn refl one.spelled two.spelled;
    stable = (λ m other like.
        let behind : Alike after (two.front ++ other) = subst (λ (z : List Token). Alike z (two.front ++ other)) (sym two.cut) (alike_front two.front rest other like) in
        ap (repeated begin item join a (deeper m n)) (append_assoc one.front two.front other)
        ∙ step_at (deeper m n) a b one.front (two.front ++ other) (begins_behind ts one.front after (two.front ++ other) one.cut t behind) (one.stable m (two.front ++ other) behind)
        ∙ two.stable m other like);
  }

  turns_took : (n : ℕ) → IsSound item M n → (k : ℕ) (a : A) (ts : List Token) (d : A) (rest : List Token) → length ts ≤ k → turns begin (item n) join k a ts ≡ Ok (d, rest) → Took (repeated begin item join a) (Repeated M join a) n ts d rest
  turns_took n si zero a [] d rest long e = stopped n a [] d rest local.none (ok_inj {A = A} (Ok (a, [])) (a, []) (d, rest) refl e)
  turns_took n si zero a (t ∷ ts) d rest long e = absurd (omega arith)
  turns_took n si (suc k) a ts d rest long e = took_test (begin ts) refl (turns_took n si k)
    where
      took_item : (r : Answer B) → item n ts ≡ r → begin ts ≡ true → (r >>= λ y. turns begin (item n) join k (join a y.0) y.1) ≡ Ok (d, rest) → ((a : A) (ts : List Token) (d : A) (rest : List Token) → length ts ≤ k → turns begin (item n) join k a ts ≡ Ok (d, rest) → Took (repeated begin item join a) (Repeated M join a) n ts d rest) → Took (repeated begin item join a) (Repeated M join a) n ts d rest
      took_item (Ok y) h t e again =
          let less : length y.1 < length ts = shrinks n ts y h in
          turned n a ts y.0 y.1 d rest t (si ts y.0 y.1 h) (again (join a y.0) y.1 d rest (omega arith) e)
      took_item (Err x) h t e again = cc

      took_test : (b : Bool) → begin ts ≡ b → ((a : A) (ts : List Token) (d : A) (rest : List Token) → length ts ≤ k → turns begin (item n) join k a ts ≡ Ok (d, rest) → Took (repeated begin item join a) (Repeated M join a) n ts d rest) → Took (repeated begin item join a) (Repeated M join a) n ts d rest
      took_test true t again = took_item (item n ts) refl t (sym (turns_on begin (item n) join k a ts (item n ts) t refl) ∙ e) again
      took_test false t again = stopped n a ts d rest t (ok_inj {A = A} (turns begin (item n) join (suc k) a ts) (a, ts) (d, rest) (turns_stop begin (item n) join (suc k) a ts t) e)

  pub repeated_sound : (n : ℕ) → IsSound item M n → (a : A) → IsSound (repeated begin item join a) (Repeated M join a) n
  unfolding items
  repeated_sound n si a ts d rest e = turns_took n si (length ts) a ts d rest (omega arith) e

  pub repeated_completes : (g h : TokenKind → Bool) → ((ts : List Token) → Stops h ts → begin ts ≡ false) → ((m : ℕ) (b : B) (ys more : List Token) → M m b ys → begin (ys ++ more) ≡ true) → (n : ℕ) → ((a d : A) (ys rest : List Token) → Repeated M join a n d ys → Stops h rest → Stops g (ys ++ rest)) → Completes item M g n → (a d : A) (ys rest : List Token) → Repeated M join a n d ys → Stops h rest → repeated begin item join a n (ys ++ rest) ≡ Ok (d, rest)
  repeated_completes g h ends starts n apart ci a d ys rest done s = items_stop begin (item n) join a rest (ends rest s)
  repeated_completes g h ends starts n apart ci a d ys rest (turn {b = b} {ys = xs} {zs = zs} e m more) s =
      let after : List Token = zs ++ rest in
      let again : repeated begin item join (join a b) n after ≡ Ok (d, rest) = repeated_completes g h ends starts n apart ci (join a b) d zs rest more s in
      ap (repeated begin item join a n) (ap (λ (z : List Token). z ++ rest) e ∙ append_assoc xs zs rest)
      ∙ step_at n a b xs after (starts n b xs after m) (ci b xs after m (apart (join a b) d zs rest more s))
      ∙ again

  grow_tail : Grows M → (n : ℕ) (a d : A) (ts : List Token) → Repeated M join a n d ts → Repeated M join a (suc n) d ts
  grow_tail gi n a d ts done = done
  grow_tail gi n a d ts (turn {b = b} {ys = ys} {zs = zs} e m more) = turn e (gi n b ys m) (grow_tail gi n (join a b) d zs more)

  pub repeated_grows : Grows M → (a : A) → Grows (Repeated M join a)
  repeated_grows gi a n d ts t = grow_tail gi n a d ts t

  pub repeated_occurs : (a : A) → Occurs (Repeated M join a)
  repeated_occurs a n = (a, [], done)

  starts_item : (n : ℕ) (a : A) (front : List Token) → Starts M n front → Starts (Repeated M join a) n front
  starts_item n a front s = (join a s.0, s.1, turn (sym (append-nil (front ++ s.1))) s.2 done)

  starts_later : (n : ℕ) (a : A) (b : B) (xs front : List Token) → M n b xs → Starts (Repeated M join (join a b)) n front → Starts (Repeated M join a) n (xs ++ front)
  starts_later n a b xs front m s = (s.0, s.1, turn (append_assoc xs front s.1) m s.2)

  fails_item : (n : ℕ) (a : A) (ts : List Token) → begin ts ≡ true → (r : Answer B) → item n ts ≡ r → Fails r → Fails (repeated begin item join a n ts)
  fails_item n a ts t (Ok x) h k = absurd k
  fails_item n a ts t (Err e) h k = subst (λ (z : Answer A). Fails z) (sym (items_fail begin (item n) join local.none a ts e t h)) tt

  item_bars : (n : ℕ) (a : A) (front rest : List Token) (why : Cause) → begin (front ++ rest) ≡ true → Bars item M n front rest why → Bars (repeated begin item join a) (Repeated M join a) n front rest why
  item_bars n a front [] why h b = b
  item_bars n a front (t ∷ rest) cause.Unfinished h b = b
  item_bars n a front (t ∷ rest) cause.Unexpected h b = λ m more.
      let ts : List Token = front ++ (healed t ∷ more) in
      fails_item (deeper m n) a ts (local_behind begin local front rest t more ∙ h) (item (deeper m n) ts) refl (b m more)
  item_bars n a front (t ∷ rest) cause.Faulty h b = (b.0, starts_item n a (front ++ (healed t ∷ [])) b.1)
  item_bars n a front (t ∷ rest) cause.TooDeep h b = (
    (λ more. let ts : List Token = front ++ (healed t ∷ more) in
        fails_item n a ts (local_behind begin local front rest t more ∙ h) (item n ts) refl (b.0 more)),
    starts_item (suc n) a (front ++ (healed t ∷ [])) b.1,
  )

  item_viable : (n : ℕ) (a : A) (front : List Token) → Viable M n front → Viable (Repeated M join a) n front
  item_viable n a front (inl e) = inl e
  item_viable n a front (inr s) = inr (starts_item n a front s)

  module _ (gi : Grows M) where
    fails_later : (n m : ℕ) (a : A) (ts : List Token) (b : B) (after front : List Token) (t : Token) (rest : List Token) (one : Took item M n ts b after) → begin ts ≡ true → after ≡ front ++ (t ∷ rest) → (more : List Token) → Fails (repeated begin item join (join a b) (deeper m n) (front ++ (healed t ∷ more))) → Fails (repeated begin item join a (deeper m n) ((one.front ++ front) ++ (healed t ∷ more)))
    fails_later n m a ts b after front t rest one bt cut more k =
        let tail : List Token = front ++ (healed t ∷ more) in
        let like : Alike after tail = subst (λ (z : List Token). Alike z tail) (sym cut) (alike_healed front t rest more) in
        subst (λ (z : Answer A). Fails z)
        (sym (ap (repeated begin item join a (deeper m n)) (append_assoc one.front front (healed t ∷ more)) ∙ step_at (deeper m n) a b one.front tail (begins_behind ts one.front after tail one.cut bt like) (one.stable m tail like))) k

    later_bars : (n : ℕ) (a : A) (ts : List Token) (b : B) (after front rest : List Token) (why : Cause) (one : Took item M n ts b after) → begin ts ≡ true → after ≡ front ++ rest → Bars (repeated begin item join (join a b)) (Repeated M join (join a b)) n front rest why → Bars (repeated begin item join a) (Repeated M join a) n (one.front ++ front) rest why
    later_bars n a ts b after front [] why one bt cut k = k
    later_bars n a ts b after front (t ∷ rest) cause.Unfinished one bt cut k = k
    later_bars n a ts b after front (t ∷ rest) cause.Unexpected one bt cut k = λ m more. fails_later n m a ts b after front t rest one bt cut more (k m more)
    later_bars n a ts b after front (t ∷ rest) cause.Faulty one bt cut k =
        (k.0, subst (λ (z : List Token). Starts (Repeated M join a) n z) (sym (append_assoc one.front front (healed t ∷ []))) (starts_later n a b one.front (front ++ (healed t ∷ [])) one.spelled k.1))
    later_bars n a ts b after front (t ∷ rest) cause.TooDeep one bt cut k = (
      (λ more. fails_later n zero a ts b after front t rest one bt cut more (k.0 more)),
      subst (λ (z : List Token). Starts (Repeated M join a) (suc n) z) (sym (append_assoc one.front front (healed t ∷ []))) (starts_later (suc n) a b one.front (front ++ (healed t ∷ [])) (gi n b one.front one.spelled) k.1),
    )

    later_viable : (n : ℕ) (a : A) (b : B) (xs front : List Token) → M n b xs → Viable (Repeated M join (join a b)) n front → Viable (Repeated M join a) n (xs ++ front)
    later_viable n a b xs front m (inl e) =
        inr (join a b, [], turn (append-nil (xs ++ front) ∙ ap (λ (z : List Token). xs ++ z) e) m done)
    later_viable n a b xs front m (inr s) = inr (starts_later n a b xs front m s)

    barred_later : (n : ℕ) (a : A) (ts : List Token) (b : B) (after : List Token) (why : Cause) (rest : List Token) → begin ts ≡ true → Took item M n ts b after → Barred (repeated begin item join (join a b)) (Repeated M join (join a b)) n after why rest → Barred (repeated begin item join a) (Repeated M join a) n ts why rest
    barred_later n a ts b after why rest bt one k = record {
      front = one.front ++ k.front;
      cut = one.cut ∙ ap (λ (z : List Token). one.front ++ z) k.cut ∙ sym (append_assoc one.front k.front rest);
      viable = later_viable n a b one.front k.front one.spelled k.viable;
      bars = later_bars n a ts b after k.front rest why one bt k.cut k.bars;
    }

    turns_barred : (n : ℕ) → IsSound item M n → IsRefusing item M n → (k : ℕ) (a : A) (ts : List Token) (why : Cause) (rest : List Token) → turns begin (item n) join k a ts ≡ Err (why, rest) → Barred (repeated begin item join a) (Repeated M join a) n ts why rest
    turns_barred n si ri zero a ts why rest e = not_err {A = A} (a, ts) (why, rest) e
    turns_barred n si ri (suc k) a ts why rest e = barred_test (begin ts) refl (turns_barred n si ri k)
      where
        barred_item : (r : Answer B) → item n ts ≡ r → begin ts ≡ true → (r >>= λ y. turns begin (item n) join k (join a y.0) y.1) ≡ Err (why, rest) → ((a : A) (ts : List Token) (why : Cause) (rest : List Token) → turns begin (item n) join k a ts ≡ Err (why, rest) → Barred (repeated begin item join a) (Repeated M join a) n ts why rest) → Barred (repeated begin item join a) (Repeated M join a) n ts why rest
        barred_item (Ok y) h t e again = barred_later n a ts y.0 y.1 why rest t (si ts y.0 y.1 h) (again (join a y.0) y.1 why rest e)
        barred_item (Err x) h t e again =
            let same : item n ts ≡ Err (why, rest) = h ∙ ap (λ (z : Cause × List Token). wrong {A = B} z) (err_inj {A = A} (wrong x) x (why, rest) refl e) in
            let b = ri ts why rest same in
            record { front = b.front; cut = b.cut; viable = item_viable n a b.front b.viable; bars = item_bars n a b.front rest why (sym (ap begin b.cut) ∙ t) b.bars }

        barred_test : (b : Bool) → begin ts ≡ b → ((a : A) (ts : List Token) (why : Cause) (rest : List Token) → turns begin (item n) join k a ts ≡ Err (why, rest) → Barred (repeated begin item join a) (Repeated M join a) n ts why rest) → Barred (repeated begin item join a) (Repeated M join a) n ts why rest
        barred_test true t again = barred_item (item n ts) refl t (sym (turns_on begin (item n) join k a ts (item n ts) t refl) ∙ e) again
        barred_test false t again = not_err {A = A} (a, ts) (why, rest) (sym (turns_stop begin (item n) join (suc k) a ts t) ∙ e)

    pub repeated_refuses : (n : ℕ) → IsSound item M n → IsRefusing item M n → (a : A) → IsRefusing (repeated begin item join a) (Repeated M join a) n
    unfolding items
    repeated_refuses n si ri a ts why rest e = turns_barred n si ri (length ts) a ts why rest e

pub some_in_place : {V : Type 0} (at : ℕ) (us : List Token) (o : Option V) → is_some (placing_before at us o) ≡ is_some o
some_in_place at us None = refl
some_in_place at us (Some v) = refl

pub placing_some : {V : Type 0} (at : ℕ) (o : Option V) (x : ℕ × V) → placing at o ≡ Some x → o ≡ Some x.1
placing_some {V = V} at None x h = cc
placing_some {V = V} at (Some v) x h =
    let same : ◌≡◌ {A = ℕ × V} (at, v) x = cc in
    ap (λ (z : ℕ × V). Some z.1) same

pub sign_shrinks : {V : Type 0} (f : Sign → Option V) (ts : List Token) (x : (ℕ × V) × List Token) → expect_sign f ts ≡ Ok x → length x.1 < length ts
sign_shrinks f ts x e =
    let one = sign_sound f zero ts x.0 x.1 e in
    let whole : length ts ≡ length ((one.spelled.t ∷ []) ++ x.1) = ap length (one.cut ∙ ap (λ (z : List Token). z ++ x.1) one.spelled.cut) in
    omega arith

-- What goes on an item and what goes on a whole group: the signs of items are among the latter, and begin no more of
-- an item.
pub record Follows {V : Type 0} (g : TokenKind → Bool) (f : Sign → Option V) (h : TokenKind → Bool) : Type 0 where
  pub halts : (k : TokenKind) → h k ≡ false → is_some (on_sign f k) ≡ false
  pub weaken : (k : TokenKind) → h k ≡ false → g k ≡ false
  pub clash : (k : TokenKind) (v : V) → on_sign f k ≡ Some v → g k ≡ false

module _ {A B V : Type 0} (f : Sign → Option V) (side : ℕ × V → Reader B) (R : ℕ × V → Lang B) (join : A → B → A) where
  abbrev pub begin : List Token → Bool
  begin ts = is_some (next_sign f ts)

  abbrev pub one_item : Reader B
  one_item n ts = expect_sign f ts >>= λ o. side o.0 n o.1

  abbrev pub ItemLang : Lang B
  ItemLang = Seq (One (at_sign f)) R

  abbrev pub tailing : A → Reader A
  tailing a n ts = items begin (one_item n) join a ts

  abbrev pub Tailing : A → Lang A
  Tailing a n d ts = Tail ItemLang join n a d ts

  pub item_shrinks : ((o : ℕ × V) → Keeps (side o)) → (n : ℕ) → Shrinks (one_item n)
  item_shrinks ks n ts x e =
      let w = bind_ok (expect_sign f ts) (λ o. side o.0 n o.1) x e in
      let one : length w.0.1 < length ts = sign_shrinks f ts w.0 w.1 in
      let two : length x.1 ≤ length w.0.1 = ks w.0.0 n w.0.1 x w.2 in
      omega arith

  pub tail_keeps : ((o : ℕ × V) → Keeps (side o)) → (a : A) → Keeps (tailing a)
  tail_keeps ks = repeated_keeps begin (local_sign f) one_item ItemLang join (item_shrinks ks)

  pub tail_sound : ((o : ℕ × V) → Keeps (side o)) → (n : ℕ) → IsSound one_item ItemLang n → (a : A) → IsSound (tailing a) (Tailing a) n
  tail_sound ks = repeated_sound begin (local_sign f) one_item ItemLang join (item_shrinks ks)

  pub item_starts : (n : ℕ) (b : B) (ys more : List Token) → ItemLang n b ys → (t : Token) × (us : List Token) × (v : V) × (ys ++ more ≡ t ∷ us) × (on_sign f t.kind ≡ Some v)
  item_starts n b ys more s =
      let t = s.left.t in
      (t, s.ys ++ more, s.first.1, ap (λ (z : List Token). z ++ more) (s.cut ∙ ap (λ (z : List Token). z ++ s.ys) s.left.cut), placing_some t.at (on_sign f t.kind) s.first s.left.is)

  pub item_begins : (n : ℕ) (b : B) (ys more : List Token) → ItemLang n b ys → begin (ys ++ more) ≡ true
  item_begins n b ys more s =
      let w = item_starts n b ys more s in
      ap begin w.3 ∙ some_in_place w.0.at w.1 (on_sign f w.0.kind) ∙ ap (λ (o : Option V). is_some o) w.4

  stops_at : (g : TokenKind → Bool) (ts us : List Token) (t : Token) → ts ≡ t ∷ us → g t.kind ≡ false → Stops g ts
  stops_at g ts us t e h = subst (λ (z : List Token). Stops g z) (sym e) h

  pub stops_begin : (g h : TokenKind → Bool) → Follows g f h → (ts : List Token) → Stops h ts → begin ts ≡ false
  stops_begin g h fs [] s = refl
  stops_begin g h fs (t ∷ ts) s = some_in_place t.at ts (on_sign f t.kind) ∙ fs.halts t.kind s

  pub stops_weaker : (g h : TokenKind → Bool) → Follows g f h → (ts : List Token) → Stops h ts → Stops g ts
  stops_weaker g h fs [] s = tt
  stops_weaker g h fs (t ∷ ts) s = fs.weaken t.kind s

  pub tail_stops : (g h : TokenKind → Bool) → Follows g f h → (n : ℕ) (a d : A) (ys rest : List Token) → Tailing a n d ys → Stops h rest → Stops g (ys ++ rest)
  tail_stops g h fs n a d ys rest done s = stops_weaker g h fs rest s
  tail_stops g h fs n a d ys rest (turn {ys = xs} {zs = zs} e m more) s =
      let w = item_starts n _ xs (zs ++ rest) m in
      stops_at g (ys ++ rest) w.1 w.0 (ap (λ (z : List Token). z ++ rest) e ∙ append_assoc xs zs rest ∙ w.3) (fs.clash w.0.kind w.2 w.4)

  pub tail_completes : (g h : TokenKind → Bool) → Follows g f h → ((o : ℕ × V) → Keeps (side o)) → (n : ℕ) → Completes one_item ItemLang g n → (a d : A) (ys rest : List Token) → Tailing a n d ys → Stops h rest → tailing a n (ys ++ rest) ≡ Ok (d, rest)
  tail_completes g h fs ks n = repeated_completes begin (local_sign f) one_item ItemLang join (item_shrinks ks) g h (stops_begin g h fs) item_begins n (tail_stops g h fs n)

  pub tail_occurs : (a : A) → Occurs (Tailing a)
  tail_occurs a n = (a, [], done)

  pub tail_refuses : ((o : ℕ × V) → Keeps (side o)) → Grows ItemLang → (n : ℕ) → IsSound one_item ItemLang n → IsRefusing one_item ItemLang n → (a : A) → IsRefusing (tailing a) (Tailing a) n
  tail_refuses ks = repeated_refuses begin (local_sign f) one_item ItemLang join (item_shrinks ks)
