-- Several clients: how the tickets of their seats are made one.
use Rattle.std.proofs.Common.{◌≡◌, ℕ, suc, ◌+◌, ◌-◌, ◌<◌, ◌≤◌, max, Bool, true, false, List, [], ◌∷◌, ◌++◌, Option, Ok, Err, length, map, take, refl, sym, ◌∙◌, ap, subst, arith}
use Rattle.std.specs.Prelude.{◌||◌, ◌^◌, IsTrue, Vec}
use Rattle.std.specs.Vec.{vec_capacity, vec_len}
use Rattle.std.specs.declared.alloc.Global.{Global}
use Rattle.session_text.specs.declared.reply.Reply.{Reply}
use Rattle.session_text.specs.Items.{Item}
use Rattle.store_model.specs.History.{History, count_of, grown}
use Rattle.store_model.specs.State.{is_among}
use Rattle.store_state.specs.Made.{Call}
use Rattle.store_state.specs.Meaning.{Meaning}
use Rattle.port_history.specs.Entries.{Entry, added_by, call_of, history_from, own}
use Rattle.port_history.proofs.Chains.{from_is_grown, history_append}
use Rattle.shared_store.specs.Idle.{IsOf, Store}
use Rattle.shared_store.specs.Rule.{one_less, split_off, together}
use Rattle.shared_store.specs.Seats.{Stand, calls_of, seat_meaning, stand_of, told_by}
use Rattle.shared_store.specs.Seen.{GoesOn, ShareNone}
use Rattle.shared_store.proofs.Both.{same_calls, same_store}
use Rattle.shared_store.proofs.Joins.{joined_among}
use Rattle.client_scripts.specs.Scripts.{HasAnswered, IsScriptAnswered, reply_count}
use Rattle.client_scripts.specs.Stages.{AllRun, HasRun, HaveRun, IsOneOf, MayRun, is_named}
use Rattle.client_scripts.specs.Told.{AreTold, BlameNone, told_length}
use Rattle.client_scripts.specs.declared.script.Answered.{Answered}
use Rattle.client_scripts.proofs.NameLemmas.{apart_more, named_more, own_nobody, own_within}
use Rattle.client_scripts.proofs.ScriptLemmas.{script_by_calls}
use Rattle.client_scripts.proofs.ToldLemmas.{are_told_longer, grown_count, script_blames, script_told}

-- ---- one client

-- what is told to the first items is all that is told to a script with so many replies
told_whole : (h : History) (least : ℕ) (items : List Item) (replies : List Reply) → AreTold h least (take (length replies) items) replies → AreTold h least items replies
told_whole h least [] replies told = tt
told_whole h least (item ∷ items) [] told = tt
told_whole h least (Err why ∷ items) (r ∷ replies) told = told_whole h least items replies told
told_whole h least (Ok asked ∷ items) (r ∷ replies) told = (told.0, told_whole h (max least (told_length r)) items replies told.1)

blames_whole : (items : List Item) (replies : List Reply) → BlameNone (take (length replies) items) replies → BlameNone items replies
blames_whole [] replies none = tt
blames_whole (item ∷ items) [] none = tt
blames_whole (Err why ∷ items) (r ∷ replies) none = blames_whole items replies none
blames_whole (Ok asked ∷ items) (r ∷ replies) none = (none.0, blames_whole items replies none.1)

module _ {C : Type 0} (m : Meaning C) where
  -- Over a seat that had made no call, a script was answered.
  pub one_run : (s last : Stand C) (items : List Item) (answered : Answered) → s.known.seen.names ≡ [] → HasAnswered (seat_meaning m) s items answered last
      → HasRun m s.known.start last.known.seen.entries items answered last.known.seen.names
  one_run s last items answered fresh has =
      let by = script_by_calls (seat_meaning m) s last items answered has in
      let none : map call_of (calls_of s.known) ≡ [] = ap (λ (ns : List ℕ). map call_of (own ns s.known.seen.entries)) fresh ∙ ap (map call_of) (own_nobody s.known.seen.entries) in
      let calls : map call_of (calls_of last.known) ≡ by.0 = same_calls m s last by.0 by.1 ∙ ap (λ (cs : List Call). cs ++ by.0) none in record {
        answered_by = subst (IsScriptAnswered items answered) (sym calls) by.2;
        told = λ tells key start one from known.
            let grew = ap count_of (from_is_grown from.history s.known.seen.entries) ∙ grown_count from.history (added_by s.known.seen.entries) in
            told_whole (history_from from.history last.known.seen.entries) (count_of from.history) items answered.replies.items
            (script_told m key one from known s last (take (reply_count answered) items) answered.replies.items (count_of from.history) start
            (subst (λ (o : Option C). IsTrue (told_by m o)) start tells) (omega (arith, grew)) has.first);
        whole = λ tells. blames_whole items answered.replies.items (script_blames m s last (take (reply_count answered) items) answered.replies.items tells has.first);
      }

  -- among more entries, of which none is its own
  one_later : (start : Option C) (es later all : List Entry) (items : List Item) (answered : Answered) (names : List ℕ) → all ≡ es ++ later → own names all ≡ own names es
      → HasRun m start es items answered names → HasRun m start all items answered names
  one_later start es later all items answered names longer same run = record {
    answered_by = subst (λ (xs : List Entry). IsScriptAnswered items answered (map call_of xs)) (sym same) run.answered_by;
    told = λ tells key is one from known.
        let h = history_from from.history es in
        let grew : history_from from.history all ≡ grown h (added_by later) =
        ap (history_from from.history) longer ∙ history_append from.history es later ∙ from_is_grown h later in
        subst (λ (g : History). AreTold g (count_of from.history) items answered.replies.items) (sym grew)
        (are_told_longer h (added_by later) (count_of from.history) items answered.replies.items (run.told tells key is one from known));
    whole = run.whole;
  }

  all_later : (start : Option C) (es later all : List Entry) (more : List ℕ) (scripts : List (List Item)) (answers : List Answered) (names : List (List ℕ))
      → all ≡ es ++ later → own more all ≡ own more es → ((n : ℕ) → is_named n names ≡ true → is_among n more ≡ true)
      → AllRun m start es scripts answers names → AllRun m start all scripts answers names
  all_later start es later all more [] answers names longer same within run = run
  all_later start es later all more (s ∷ scripts) [] names longer same within run = absurd run
  all_later start es later all more (s ∷ scripts) (a ∷ answers) [] longer same within run = absurd run
  all_later start es later all more (s ∷ scripts) (a ∷ answers) (ns ∷ names) longer same within run =
      let its : (n : ℕ) → is_among n ns ≡ true → is_among n more ≡ true = λ n h. within n (ap (λ (b : Bool). b || is_named n names) h) in
      let own_same : own ns all ≡ own ns es = sym (own_within ns more its all) ∙ ap (own ns) same ∙ own_within ns more its es in (
        one_later start es later all s a ns longer own_same run.0,
        all_later start es later all more scripts answers names longer same (λ n h. within n (rest n h)) run.1,
      )
    where
      rest : (n : ℕ) → is_named n names ≡ true → (is_among n ns || is_named n names) ≡ true
      rest n h = elim (is_among n ns) as (λ t. (t || is_named n names) ≡ true) [ true ↦ refl | false ↦ h ]

  all_more : (start : Option C) (es : List Entry) (scripts : List (List Item)) (answers : List Answered) (names : List (List ℕ)) (s : List Item) (a : Answered) (ns : List ℕ)
      → AllRun m start es scripts answers names → HasRun m start es s a ns → AllRun m start es (scripts ++ s ∷ []) (answers ++ a ∷ []) (names ++ ns ∷ [])
  all_more start es [] answers names s a ns run one = rw (run.0, run.1) (one, (refl, refl))
  all_more start es (x ∷ scripts) [] names s a ns run one = absurd run
  all_more start es (x ∷ scripts) (y ∷ answers) [] s a ns run one = absurd run
  all_more start es (x ∷ scripts) (y ∷ answers) (z ∷ names) s a ns run one = (run.0, all_more start es scripts answers names s a ns run.1 one)

  -- ---- all of them

  pub none_run : (v : Stand C) (answers : List Answered) → v.known.seen.names ≡ [] → answers ≡ [] → HaveRun m v [] answers v
  none_run v answers fresh none = record {
    table = refl;
    start = refl;
    parts = refl;
    names = [];
    each = (none, refl);
    apart = tt;
    named = λ n. ap (is_among n) fresh;
  }

  pub one_more_run : (v rest mine both : Stand C) (scripts : List (List Item)) (answers : List Answered) (items : List Item) (answered : Answered)
      → 1 ≤ v.known.parts → HaveRun m (stand_of v.table (one_less v.known)) scripts answers rest
      → HasAnswered (seat_meaning m) (stand_of v.table (split_off v.known)) items answered mine → IsOneOf rest mine both
      → HaveRun m v (scripts ++ items ∷ []) (answers ++ answered ∷ []) both
  one_more_run v rest mine both scripts answers items answered some run has one =
      let new = stand_of v.table (split_off v.known) in
      let by = script_by_calls (seat_meaning m) new mine items answered has in
      let store = same_store m new mine by.0 by.1 in
      let its = one_run new mine items answered refl has in
      let parts : both.known.parts ≡ rest.known.parts + mine.known.parts = ap (λ k. k.parts) one.is in record {
        table = one.table ∙ run.table;
        start = ap (λ k. k.start) one.is ∙ run.start;
        parts = omega (arith, parts, run.parts, store.2, some);
        names = run.names ++ mine.known.seen.names ∷ [];
        each = all_more v.known.start both.known.seen.entries scripts answers run.names items answered mine.known.seen.names
            (all_later v.known.start rest.known.seen.entries one.first.later both.known.seen.entries rest.known.seen.names scripts answers run.names one.first.begins one.first.mine
            (λ n h. run.named n ∙ h) run.each)
            (one_later v.known.start mine.known.seen.entries one.second.later both.known.seen.entries items answered mine.known.seen.names one.second.begins one.second.mine its);
        apart = apart_more run.names mine.known.seen.names run.apart (λ n h. one.apart n (run.named n ∙ h));
        named = λ n.
            ap (λ k. is_among n k.seen.names) one.is
            ∙ joined_among n rest.known.seen.names mine.known.seen.names
            ∙ ap (λ (b : Bool). b || is_among n mine.known.seen.names) (run.named n)
            ∙ sym (named_more n run.names mine.known.seen.names);
      }

  -- the same, as the tickets and lists were made
  pub run_goes_on : (v first rest second mine both : Stand C) (scripts left : List (List Item)) (answers some : List Answered) (items : List Item) (answered : Answered)
      → first ≡ stand_of v.table (one_less v.known) → second ≡ stand_of v.table (split_off v.known) → scripts ≡ left ++ items ∷ [] → answers ≡ some ++ answered ∷ []
      → 1 ≤ v.known.parts → HaveRun m first left some rest → HasAnswered (seat_meaning m) second items answered mine → IsOneOf rest mine both → HaveRun m v scripts answers both
  run_goes_on v first rest second mine both scripts left answers some items answered is_first is_second all_scripts all_answers parts run has one =
      subst (λ (xs : List (List Item)). HaveRun m v xs answers both) (sym all_scripts)
      (subst (λ (xs : List Answered). HaveRun m v (left ++ items ∷ []) xs both) (sym all_answers)
      (one_more_run v rest mine both left some items answered parts (subst (λ (s : Stand C). HaveRun m s left some rest) is_first run)
      (subst (λ (s : Stand C). HasAnswered (seat_meaning m) s items answered mine) is_second has) one))

  -- ---- what each has of its store

  pub still_of : (store : Store C) (v w : Stand C) (scripts : List (List Item)) (answers : List Answered) → HaveRun m v scripts answers w → IsOf store v → IsOf store w
  still_of store v w scripts answers run of = (run.table ∙ of.0, run.start ∙ of.1)

  pub left_of : (store : Store C) (v s last : Stand C) (items : List Item) (answered : Answered) → s ≡ stand_of v.table (split_off v.known)
      → HasAnswered (seat_meaning m) s items answered last → IsOf store v → IsOf store last
  left_of store v s last items answered is has of =
      let by = script_by_calls (seat_meaning m) s last items answered has in
      let same = same_store m s last by.0 by.1 in
      (same.0 ∙ ap (λ (x : Stand C). x.table) is ∙ of.0, same.1 ∙ ap (λ (x : Stand C). x.known.start) is ∙ of.1)

-- one answer for each script
answers_count : {C : Type 0} (m : Meaning C) (start : Option C) (es : List Entry) (scripts : List (List Item)) (answers : List Answered) (names : List (List ℕ))
    → AllRun m start es scripts answers names → length answers ≡ length scripts
answers_count m start es [] answers names run = ap length run.0
answers_count m start es (s ∷ scripts) [] names run = absurd run
answers_count m start es (s ∷ scripts) (a ∷ answers) [] run = absurd run
answers_count m start es (s ∷ scripts) (a ∷ answers) (ns ∷ names) run = ap suc (answers_count m start es scripts answers names run.1)

pub one_answer_each : {C : Type 0} (m : Meaning C) (v w : Stand C) (scripts : List (List Item)) (answers : List Answered) → HaveRun m v scripts answers w
    → length answers ≡ length scripts
one_answer_each m v w scripts answers run = answers_count m v.known.start w.known.seen.entries scripts answers run.names run.each

-- ---- the rights to seats

pub one_of : {C : Type 0} (v w first other joined left : Stand C) → other ≡ w → first ≡ v → joined ≡ stand_of first.table (together first.known other.known) → left ≡ joined
    → ShareNone first.known.seen.names other.known.seen.names → GoesOn first.known.seen.names first.known.seen.entries joined.known.seen.entries
    → GoesOn other.known.seen.names other.known.seen.entries joined.known.seen.entries → IsOneOf v w left
one_of {C} v w first other joined left is_other is_first both same apart goes_first goes_second =
    let all : IsOneOf first other joined = record {
      table = ap (λ (s : Stand C). s.table) both;
      is = ap (λ (s : Stand C). s.known) both;
      apart = apart;
      first = goes_first;
      second = goes_second;
    } in
    subst (λ (s : Stand C). IsOneOf v w s) (sym same)
    (subst (λ (s : Stand C). IsOneOf v s joined) is_other (subst (λ (s : Stand C). IsOneOf s other joined) is_first all))

pub may_run : {C : Type 0} (store : Store C) (v rest : Stand C) (scripts left : Vec (List Item) Global) (answers : Vec Answered Global) → IsOf store v → v.known.seen.names ≡ []
    → vec_len scripts < v.known.parts → vec_len scripts ≤ 2 ^ 31 → vec_len scripts ≤ vec_capacity answers → answers.items ≡ []
    → rest ≡ stand_of v.table (one_less v.known) → vec_len left + 1 ≡ vec_len scripts → MayRun store rest left answers
may_run {C} store v rest scripts left answers here fresh parts few room none is fewer = record {
  here = (ap (λ (s : Stand C). s.table) is ∙ here.0, ap (λ (s : Stand C). s.known.start) is ∙ here.1);
  fresh = ap (λ (s : Stand C). s.known.seen.names) is ∙ fresh;
  parts = (let its : rest.known.parts ≡ v.known.parts - 1 = ap (λ (s : Stand C). s.known.parts) is in omega (arith, its, parts, fewer));
  few = omega (arith, few, fewer);
  room = omega (arith, room, fewer);
  none = none;
}
