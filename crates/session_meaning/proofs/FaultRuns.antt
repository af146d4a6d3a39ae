-- No line is refused in reading for a fault of the disk, so each run tells of all that were.
use Rattle.std.specs.Prelude.{⊤}
use Rattle.std.proofs.Common.{◌≡◌, ◌≢◌, inl, inr, ◌∙◌, ℕ, zero, suc, ◌+◌, Bool, true, false, ◌||◌, nat_le, List, [], ◌∷◌, ◌++◌, codes, Option, Some, None, Result, Ok, Err, if◌then◌else◌, length, map, refl, sym, ap, subst}
use Rattle.std.specs.Prelude.{IfSome}
use Rattle.std.specs.Str.{bytes_eq, is_utf8}
use Rattle.std.specs.List.{list_any}
use Rattle.command_words.specs.Commands.{Alone, Command, Drill as drill, Ingest as ingest, Serve as serve, Session as session, Spells}
use Rattle.disk_model.specs.Counts.{RoseBy}
use Rattle.drill_input.specs.Drill.{drill_line}
use Rattle.io_edges.specs.Lines.{line_limit, lines}
use Rattle.otlp_spans.specs.Fields.{trace_id_of}
use Rattle.otlp_spans.specs.Reading.{Given, NoJson, TooManySpans, WrongForm, reading_of}
use Rattle.otlp_spans.specs.Reading as otlp
use Rattle.span_types.specs.declared.ids.TraceId.{TraceId}
use Rattle.traceql_syntax.specs.declared.errors.ParseError.{ParseError}
use Rattle.traceql_syntax.specs.declared.errors.ParseError.TheVariants as parse
use Rattle.traceql_types.specs.declared.errors.TypeError.{TypeError}
use Rattle.traceql_types.specs.declared.errors.TypeError.TheVariants as type
use Rattle.session_text.specs.declared.reply.Reply.{Reply}
use Rattle.session_text.specs.declared.request.Request.{Request}
use Rattle.session_text.specs.declared.request.Request.TheVariants as request
use Rattle.session_text.specs.Items.{Item}
use Rattle.session_text.specs.Lines.{first_part, other_parts}
use Rattle.session_text.specs.MetricsLines.{MetricsLine, metrics_parts}
use Rattle.session_text.specs.Options.{SearchLine, search_parts}
use Rattle.session_text.specs.Requests.{Answers, AsksAt, AsksPush, Line, alone, buckets_of, line_of, measured, metrics_with, other_line, plain, push_of, push_with, pushed, request_by, search_with, searched, trace_with, with_id}
use Rattle.session_text.specs.Searches.{of_check, of_parse}
use Rattle.session_meaning.specs.declared.ending.Ending.{Ending}
use Rattle.session_meaning.specs.declared.ending.Ending.TheVariants.{Answered, BadWords, NotOpened, NotStore, ReadFault, Refused, Spent, Starved, WriteFault}
use Rattle.session_meaning.specs.Act.{Act, ComesTo}
use Rattle.session_meaning.specs.Act.Act.{Ask, Reopen, Unread}
use Rattle.session_meaning.specs.Asked.{AreAsked, after_moment}
use Rattle.session_meaning.specs.Causes.{act_blames_disk, blames_disk, disk_faults, is_disk_fault}
use Rattle.session_meaning.specs.Drill.{CameThrough, LinesMade, drill_searches, is_flushed_after, upkeep_after}
use Rattle.session_meaning.specs.Ingest.{AreJoined, Asks, AsksLine, AtTheEnd, Compacts, Far, Ingests, KeptSmall, LinesPushed, Part, Pushes, Stand, Then}
use Rattle.session_meaning.specs.Ingest.Far.{so_far, whole}
use Rattle.session_meaning.specs.Runs.{CameSoFar, DoesInStore, Edges, HasAnswered, HasIngested, HasRun, IsRunOf, Outcome, TellsAll}
use Rattle.session_meaning.specs.Place.{opened_at}
use Rattle.session_meaning.proofs.Acts.{acts_count}
use Rattle.session_meaning.proofs.FaultLaws.{both_none, rose_none}

-- ---- one line

-- it is a search or a metrics query, or a line that isn't refused for that
abbrev IsNone : Line → Type 0
IsNone (searched line) = ⊤
IsNone (measured line) = ⊤
IsNone (plain answer) = blames_disk answer ≡ false

either : (b : Bool) (x y : Line) → IsNone x → IsNone y → IsNone (if b then x else y)
either true x y this that = this
either false x y this that = that

alone_none : (word : List ℕ) (rest : Option (List ℕ)) (r : Request) → IsNone (plain (alone word rest r))
alone_none word None r = refl
alone_none word (Some more) r = refl

id_none : (start : ℕ) (part : List ℕ) (id : Option TraceId) (more : Option (List ℕ)) → IsNone (plain (with_id start part id more))
id_none start part None more = refl
id_none start part (Some id) None = refl
id_none start part (Some id) (Some more) = refl

trace_none : (len : ℕ) (rest : Option (List ℕ)) → IsNone (plain (trace_with len rest))
trace_none len None = refl
trace_none len (Some rest) = id_none 6 (first_part rest) (trace_id_of (first_part rest)) (other_parts rest)

pushed_none : (moment : ℕ) (read : Result Given otlp.Refusal) → IsNone (plain (pushed moment read))
pushed_none moment (Ok given) = refl
pushed_none moment (Err NoJson) = refl
pushed_none moment (Err (WrongForm path)) = refl
pushed_none moment (Err (TooManySpans spans)) = refl

push_none : (moment len : ℕ) (rest : Option (List ℕ)) → IsNone (plain (push_with moment len rest))
push_none moment len None = refl
push_none moment len (Some json) = pushed_none moment (reading_of json)

search_none : (read : Result SearchLine ℕ) → IsNone (search_with read)
search_none (Ok line) = tt
search_none (Err at) = refl

metrics_none : (read : Result MetricsLine ℕ) → IsNone (metrics_with read)
metrics_none (Ok line) = either (nat_le (buckets_of line) 1000) _ _ tt refl
metrics_none (Err at) = refl

other_none : (moment : ℕ) (word line : List ℕ) (rest : Option (List ℕ)) → IsNone (other_line moment word line rest)
other_none moment word line rest =
    either (bytes_eq word (codes "trace")) _ _ (trace_none (length line) rest)
    (either (bytes_eq word (codes "search")) _ _ (search_none (search_parts (length line) rest))
    (either (bytes_eq word (codes "metrics")) _ _ (metrics_none (metrics_parts (length line) rest))
    (either (bytes_eq word (codes "cut")) _ _ (alone_none word rest (request.Cut moment))
    (either (bytes_eq word (codes "cutall")) _ _ (alone_none word rest request.CutAll)
    (either (bytes_eq word (codes "flush")) _ _ (alone_none word rest request.Flush)
    (either (bytes_eq word (codes "compact")) _ _ (alone_none word rest request.Compact)
    (either (bytes_eq word (codes "reclaim")) _ _ (alone_none word rest request.Reclaim) refl)))))))

request_none : (moment : ℕ) (word line : List ℕ) (rest : Option (List ℕ)) → IsNone (request_by moment word line rest)
request_none moment word line rest =
    either (bytes_eq word (codes "push")) _ _ (push_none moment (length line) rest)
    (either (is_utf8 line) _ _ (other_none moment word line rest) refl)

line_none : (moment : ℕ) (line : List ℕ) → IsNone (line_of moment line)
unfolding line_of
line_none moment line = either (nat_le (length line) line_limit) _ _ (request_none moment (first_part line) line (other_parts line)) refl

line_push_none : (moment : ℕ) (line : List ℕ) → IsNone (push_of moment line)
line_push_none moment line =
    either (nat_le (length line) line_limit) _ _
    (request_none moment (first_part (codes "push " ++ line)) (codes "push " ++ line) (other_parts (codes "push " ++ line))) refl

parse_none : (e : ParseError) → is_disk_fault (of_parse e) ≡ false
parse_none (parse.BadChar at) = refl
parse_none (parse.Unexpected at) = refl
parse_none (parse.Unended at) = refl
parse_none (parse.NumberRange at) = refl
parse_none (parse.FractionLiteral at) = refl
parse_none (parse.TooLong size) = refl
parse_none (parse.TooDeep at) = refl
parse_none parse.Memory = refl

check_none : (e : TypeError) → is_disk_fault (of_check e) ≡ false
check_none (type.KindClash at) = refl
check_none (type.NotTruth at) = refl
check_none (type.DivisionInAggregate at) = refl
check_none (type.NotNumber at) = refl
check_none (type.BadPattern at) = refl
check_none (type.PatternTooBig at) = refl
check_none type.Memory = refl

answers_none : (line : Line) (refused : List (List ℕ)) (item : Item) → IsNone line → Answers line refused item → blames_disk item ≡ false
answers_none line refused (Ok r) none a = refl
answers_none (searched line) refused (Err why) none (inl (no_query, clean)) = ap is_disk_fault no_query.is ∙ parse_none no_query.why
answers_none (searched line) refused (Err why) none (inr unfit) = ap is_disk_fault unfit.misfit.is ∙ check_none unfit.misfit.why
answers_none (measured line) refused (Err why) none (inl (no_query, clean)) = ap is_disk_fault no_query.is ∙ parse_none no_query.why
answers_none (measured line) refused (Err why) none (inr unfit) = ap is_disk_fault unfit.misfit.is ∙ check_none unfit.misfit.why
answers_none (plain answer) refused (Err why) none (inl is, clean) = ap blames_disk is ∙ none
answers_none (plain answer) refused (Err why) none (inr is, clean) = ap blames_disk is

pub asked_none : (moment : ℕ) (line : List ℕ) (refused : List (List ℕ)) (item : Item) → AsksAt moment line refused item → blames_disk item ≡ false
asked_none moment line refused item a = answers_none (line_of moment line) refused item (line_none moment line) a

pub push_asked_none : (moment : ℕ) (line : List ℕ) (item : Item) → AsksPush moment line item → blames_disk item ≡ false
push_asked_none moment line item a = answers_none (push_of moment line) [] item (line_push_none moment line) a

-- ---- the lines of a run

add_none : (item : Item) (items : List Item) → blames_disk item ≡ false → list_any blames_disk items ≡ false → list_any blames_disk (item ∷ items) ≡ false
add_none item items here later = ap (λ (b : Bool). b || list_any blames_disk items) here ∙ later

act_none : (act : Act) (acts : List Act) → act_blames_disk act ≡ false → list_any act_blames_disk acts ≡ false → list_any act_blames_disk (act ∷ acts) ≡ false
act_none act acts here later = ap (λ (b : Bool). b || list_any act_blames_disk acts) here ∙ later

come_none : (moment : ℕ) (line : List ℕ) (refused : List (List ℕ)) (act : Act) → ComesTo moment line refused act → act_blames_disk act ≡ false
come_none moment line refused (Ask item) comes = asked_none moment line refused item comes.1
come_none moment line refused (Reopen at) comes = refl
come_none moment line refused Unread comes = refl

all_none : (lines : List (List ℕ)) (moments : Option (List ℕ)) (acts : List Act) (refused : List (List ℕ)) → AreAsked lines moments acts refused → list_any act_blames_disk acts ≡ false
all_none [] moments acts refused a = ap (list_any act_blames_disk) a.0
all_none ([] ∷ lines) moments acts refused a = all_none lines moments acts refused a
all_none ((b ∷ bs) ∷ lines) moments [] refused a = absurd a
all_none ((b ∷ bs) ∷ lines) moments (act ∷ acts) refused (now, later, are, next, rest) =
    act_none act acts (come_none next.0 (b ∷ bs) now act next.2) (all_none lines (after_moment moments) acts later rest)

mapped_none : (items : List Item) → list_any blames_disk items ≡ false → list_any act_blames_disk (map Ask items) ≡ false
mapped_none [] none = refl
mapped_none (i ∷ is) none =
    let parts = both_none (blames_disk i) (list_any blames_disk is) none in
    act_none (Ask i) (map Ask is) parts.0 (mapped_none is parts.1)

-- ---- the parts of an ingest

abbrev BlamesNone : Part → Type 0
BlamesNone part = (before after : Stand) (items : List Item) (replies : List Reply) (far : Far) → part before items replies after far → list_any blames_disk items ≡ false

joined_none : (xs ys : List Item) → list_any blames_disk xs ≡ false → list_any blames_disk ys ≡ false → list_any blames_disk (xs ++ ys) ≡ false
joined_none [] ys first later = later
joined_none (x ∷ xs) ys first later = go (blames_disk x) refl first (λ rest. joined_none xs ys rest later)
  where
    go : (b : Bool) → blames_disk x ≡ b → (b || list_any blames_disk xs) ≡ false → (list_any blames_disk xs ≡ false → list_any blames_disk (xs ++ ys) ≡ false)
        → list_any blames_disk ((x ∷ xs) ++ ys) ≡ false
    go true is bad more = let no : ⊥ = cc in absurd no
    go false is rest more = add_none x (xs ++ ys) is (more rest)

then_none : (one two : Part) → BlamesNone one → BlamesNone two → BlamesNone (Then one two)
then_none one two first next before after items replies far (inl halt) = first before after items replies so_far halt.0
then_none one two first next before after items replies far (inr (mid, xs, ys, rs, ss, items_are, replies_are, done, rest)) =
    ap (list_any blames_disk) items_are ∙ joined_none xs ys (first before mid xs rs whole done) (next mid after ys ss far rest)

ask_none : (sure : Bool) (request : Request) → BlamesNone (Asks sure request)
ask_none sure request before after items replies far (inl nothing) = ap (list_any blames_disk) nothing.0.0
ask_none sure request before after items replies far (inr (reply, is, told, answered, clock)) = ap (list_any blames_disk) is

line_pushed_none : (sure : Bool) (line : List ℕ) → BlamesNone (AsksLine sure line)
line_pushed_none sure line before after items replies far (inl nothing) = ap (list_any blames_disk) nothing.0.0
line_pushed_none sure line before after items replies far (inr (moment, item, reply, next, asks, is, told, answered, clock)) =
    ap (list_any blames_disk) is ∙ add_none item [] (push_asked_none moment line item asks) refl

small_none : (sure : Bool) → BlamesNone (KeptSmall sure)
small_none sure before after items replies far (inl few) = ap (list_any blames_disk) few.1.0
small_none sure before after items replies far (inr many) = then_none (Asks sure request.CutAll) (Asks sure request.Flush) (ask_none sure request.CutAll) (ask_none sure request.Flush) before after items replies far many.1

lines_none : (sure : Bool) (lines : List (List ℕ)) → BlamesNone (LinesPushed sure lines)
lines_none sure [] before after items replies far nothing = ap (list_any blames_disk) nothing.0
lines_none sure ([] ∷ lines) before after items replies far h = lines_none sure lines before after items replies far h
lines_none sure ((b ∷ bs) ∷ lines) before after items replies far h =
    then_none (Then (AsksLine sure (b ∷ bs)) (KeptSmall sure)) (LinesPushed sure lines)
    (then_none (AsksLine sure (b ∷ bs)) (KeptSmall sure) (line_pushed_none sure (b ∷ bs)) (small_none sure)) (lines_none sure lines) before after items replies far h

compacts_none : (sure : Bool) → BlamesNone (Compacts sure)
compacts_none sure before after [] replies far h = refl
compacts_none sure before after (i ∷ is) [] far bad = absurd bad
compacts_none sure before after (i ∷ is) (r ∷ rs) far (asks, between, answered, clock, inl more) =
    add_none i is (ap blames_disk asks) (compacts_none sure between after is rs far more.1)
compacts_none sure before after (i ∷ is) (r ∷ rs) far (asks, between, answered, clock, inr last) =
    add_none i is (ap blames_disk asks) (ap (list_any blames_disk) last.1.0)

ingest_none : (sure : Bool) (lines : List (List ℕ)) → BlamesNone (Ingests sure lines)
ingest_none sure lines =
    then_none (KeptSmall sure) (Then (LinesPushed sure lines) (AtTheEnd sure)) (small_none sure)
    (then_none (LinesPushed sure lines) (AtTheEnd sure) (lines_none sure lines)
    (then_none (Asks sure request.CutAll) (Then (Asks sure request.Flush) (Then (Compacts sure) (Asks sure request.Reclaim))) (ask_none sure request.CutAll)
    (then_none (Asks sure request.Flush) (Then (Compacts sure) (Asks sure request.Reclaim)) (ask_none sure request.Flush)
    (then_none (Compacts sure) (Asks sure request.Reclaim) (compacts_none sure) (ask_none sure request.Reclaim)))))

pushes_none : (sure : Bool) (lines : List (List ℕ)) (before after : Stand) (items : List Item) (replies : List Reply) → Pushes sure lines before items replies after → list_any blames_disk items ≡ false
pushes_none sure lines before after items replies h =
    then_none (KeptSmall sure) (LinesPushed sure lines) (small_none sure) (lines_none sure lines) before after items replies whole h

came_none : (sure : Bool) (e : Ending) (all pushed : List (List ℕ)) (before after : Stand) (items : List Item) (replies : List Reply) → CameSoFar sure e all pushed before items replies after
    → list_any blames_disk items ≡ false
came_none sure Answered all pushed before after items replies h = ingest_none sure all before after items replies whole h
came_none sure WriteFault all pushed before after items replies h = ingest_none sure all before after items replies so_far h
came_none sure BadWords all pushed before after items replies h = ingest_none sure all before after items replies so_far h
came_none sure ReadFault all pushed before after items replies h = pushes_none sure pushed before after items replies h
came_none sure NotOpened all pushed before after items replies h = ingest_none sure all before after items replies so_far h
came_none sure (NotStore file at) all pushed before after items replies h = ingest_none sure all before after items replies so_far h
came_none sure Starved all pushed before after items replies h = ingest_none sure all before after items replies so_far h
came_none sure Refused all pushed before after items replies h = ingest_none sure all before after items replies whole h
came_none sure Spent all pushed before after items replies h = pushes_none sure pushed before after items replies h

-- ---- the parts of a drill

upkeep_none : (b : Bool) (later : List Item) → list_any blames_disk later ≡ false → list_any blames_disk ((if b then Ok request.CutAll ∷ Ok request.Flush ∷ [] else []) ++ later) ≡ false
upkeep_none true later none = add_none (Ok request.CutAll) (Ok request.Flush ∷ later) refl (add_none (Ok request.Flush) later refl none)
upkeep_none false later none = none

made_none : (seed traces index count : ℕ) (told to_tell : Option (List ℕ)) (items : List Item) → LinesMade seed traces index count told items to_tell → list_any blames_disk items ≡ false
made_none seed traces index zero told to_tell items nothing = ap (list_any blames_disk) nothing.0
made_none seed traces index (suc count) told to_tell items (moment, item, later, next, asks, are, rest) =
    ap (list_any blames_disk) are
    ∙ add_none item (upkeep_after index traces ++ later) (push_asked_none moment (drill_line seed index) item asks)
    (upkeep_none (is_flushed_after index traces) later (made_none seed traces (index + 1) count (after_moment told) to_tell later rest))

compactions_none : (items : List Item) (replies : List Reply) → AreJoined items replies → list_any blames_disk items ≡ false
compactions_none [] replies joined = refl
compactions_none (item ∷ items) [] joined = absurd joined
compactions_none (item ∷ items) (reply ∷ replies) joined = add_none item items (ap blames_disk joined.0) (compactions_none items replies joined.2)

unmapped_none : (items : List Item) → list_any act_blames_disk (map Ask items) ≡ false → list_any blames_disk items ≡ false
unmapped_none [] none = refl
unmapped_none (i ∷ is) none =
    let parts = both_none (blames_disk i) (list_any act_blames_disk (map Ask is)) none in
    add_none i is parts.0 (unmapped_none is parts.1)

drill_none : (seed traces : ℕ) (e : Ending) (told : Option (List ℕ)) (items : List Item) (replies : List Reply) (refused : List (List ℕ)) (to_tell old_taken taken : Option (List ℕ))
    → CameThrough seed traces e told items replies refused to_tell old_taken taken → list_any blames_disk items ≡ false
drill_none seed traces e told items replies refused to_tell old_taken taken (inl (all, ends)) =
    ap (list_any blames_disk) all.items_are
    ∙ joined_none all.pushes (all.compactions ++ Ok request.Compact ∷ Ok request.Reclaim ∷ all.searches)
    (made_none seed traces 0 traces told all.between all.pushes all.are_made)
    (joined_none all.compactions (Ok request.Compact ∷ Ok request.Reclaim ∷ all.searches) (compactions_none all.compactions all.joined all.are_joined)
    (add_none (Ok request.Compact) (Ok request.Reclaim ∷ all.searches) refl (add_none (Ok request.Reclaim) all.searches refl
    (unmapped_none all.searches (all_none drill_searches all.between (map Ask all.searches) refused all.are_asked)))))
drill_none seed traces e told items replies refused to_tell old_taken taken (inr (halt, starved, same)) =
    made_none seed traces 0 halt.count told to_tell items halt.are_made

-- ---- a run

some_is : {T : Type 0} (o : Option T) (x : T) (P : T → Type 0) → o ≡ Some x → IfSome o P → P x
some_is {T} o x P is has = subst (λ (p : Option T). IfSome p P) is has

acts_none : (sure : Bool) (c : Command) (o : Outcome) (old new : Edges) → TellsAll c old → DoesInStore sure c o old new → list_any act_blames_disk o.acts ≡ false
acts_none sure session o old new (text, before, source, sink) did =
    let ran = some_is old.taken before (λ b. HasRun text b o old new) sink (some_is old.left text (λ t. IfSome old.taken (λ b. HasRun t b o old new)) source did) in
    all_none ran.answered (after_moment old.moments) o.acts o.refused ran.asked
acts_none sure ingest o old new (text, before, source, sink) did =
    let ran = some_is old.taken before (λ b. HasIngested sure text b o old new) sink (some_is old.left text (λ t. IfSome old.taken (λ b. HasIngested sure t b o old new)) source did) in
    ap (list_any act_blames_disk) ran.acts_are
    ∙ mapped_none ran.items (came_none sure o.ending (lines text) ran.pushed (record { store = o.first; moments = after_moment old.moments }) (record { store = o.last.store; moments = new.moments }) ran.items o.replies ran.asked)
acts_none sure (serve clients rounds) o old new tells did = absurd did
acts_none sure (drill seed traces) o old new tells did =
    ap (list_any act_blames_disk) did.acts_are
    ∙ mapped_none did.items (drill_none seed traces o.ending (after_moment old.moments) did.items o.replies o.refused new.moments old.taken new.taken did.came)
acts_none sure (Alone line) o old new (before, sink) did =
    let ran = some_is old.taken before (λ b. HasAnswered line b o old new) sink did.1 in
    ap (list_any act_blames_disk) ran.acts_are
    ∙ act_none (Ask ran.item) [] (asked_none ran.asked.0 line o.refused ran.item ran.asked.2) refl

pub run_counts : (sure : Bool) (words : List (List ℕ)) (c : Command) (o : Outcome) (old new : Edges) → Spells words c → IsRunOf sure words o old new → TellsAll c old → o.ending ≢ NotOpened
    → RoseBy (disk_faults o.replies) old.disk_faults new.disk_faults
run_counts sure words c o old new spells run tells not = elim (run.does c spells) [
  | inl did ↦ subst (λ (n : ℕ). RoseBy (disk_faults o.replies) n new.disk_faults) did.1.first_faults
      (subst (λ (n : ℕ). RoseBy (disk_faults o.replies) o.first.faults n) did.1.last_faults
      (acts_count sure o.acts o.replies (opened_at o.first) o.last run.session (acts_none sure c o old new tells did.3)))
  | inr other ↦ subst (λ (rs : List Reply). RoseBy (disk_faults rs) old.disk_faults new.disk_faults) (sym other.1.no_replies)
      (rose_none old.disk_faults new.disk_faults (other.1.quiet not))
]
