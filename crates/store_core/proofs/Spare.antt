-- Changes of files that are neither segments nor blocks of the list which counts.
use Rattle.std.proofs.Common.{◌≡◌, ◌≢◌, inl, inr, ℕ, ◌≤◌, List, [], ◌∷◌, ◌++◌, Some, sym, ◌∙◌, subst, arith}
use Rattle.std.specs.List.{Contains}
use Rattle.std.proofs.lemmas.List.Elements.{Contains-append_left, Contains-append_right}
use Rattle.disk_model.specs.Images.{Image, bytes_of, Besides, OnFile}
use Rattle.disk_model.specs.Crash.{OnlyBytes, Reached, Within}
use Rattle.head_log.specs.Stands.{SegmentHolds}
use Rattle.block_list.specs.Body.{MeetsRules}
use Rattle.block_list.specs.Loading.{IsReady}
use Rattle.block_list.proofs.ReadyLemmas.{ready_besides}
use Rattle.block_list.specs.declared.body.SegmentRef.{SegmentRef}
use Rattle.block_list.specs.declared.body.ListBody.{ListBody}
use Rattle.store_model.specs.History.{History}
use Rattle.store_model.specs.State.{Block}
use Rattle.store_images.specs.Stored.{KeepsStored, first_number}
use Rattle.store_images.specs.Settled.{Tail, IsSettled}
use Rattle.store_images.proofs.Lists.{at_front}
use Rattle.store_images.proofs.Logs.{log_same}
use Rattle.store_images.proofs.Keeping.{rules_in, given_out, blocks_same}
use Rattle.store_model.specs.Event.{Event, Reply}
use Rattle.store_model.specs.Step.{Machine, Step}
use Rattle.store_core.specs.Cores.{HasState}
use Rattle.store_files.specs.Described.{AreDescribed}
use Rattle.store_files.specs.Loose.{IsSpare, used_files}
use Rattle.store_core.specs.Waiting.{rows_outside, AreLogged}
use Rattle.store_core.specs.declared.state.CoreState.{CoreState}
use Rattle.store_core.proofs.Described.{described_same}
use Rattle.store_core.proofs.Logged.{logged_same, step_fewer}
use Rattle.store_files.proofs.Apart.{list_low, below_change, keeps_below}
use Rattle.store_files.proofs.LooseFiles.{loose_apart, loose_named, segment_used, block_used, emptied_keeps, renewed}

pub spare_low : (body : ListBody) → MeetsRules body → (file : ℕ) → IsSpare body file → 2 ≤ file
spare_low body rules file (inl above) = let least = list_low body rules in omega (arith, least, above)
spare_low body rules file (inr named) = (given_out body file rules (loose_named body file named)).0

pub spare_apart : (body : ListBody) → MeetsRules body → (file other : ℕ) → IsSpare body file → Contains (used_files body) other → other ≢ file
spare_apart body rules file other (inl above) used =
    let given = (given_out body other rules (Contains-append_left (used_files body) body.loose other used)).1 in λ is. omega (arith, is, above, given)
spare_apart body rules file other (inr named) used = loose_apart body rules file other named used

pub keeps_spare : (held : Image) (may_leave : Image → Type 0) (body : ListBody) → IsReady held may_leave (Some body) → (file : ℕ) (step : List ℕ → List ℕ → Type 0) (origin image : Image)
    → IsSpare body file → may_leave origin → OnFile file step origin image → KeepsStored origin image
keeps_spare held may_leave body ready file step origin image (inl above) possible on =
    keeps_below held may_leave body ready origin image possible (below_change body.next_file file step origin image above on)
keeps_spare held may_leave body ready file step origin image (inr named) possible on = emptied_keeps held may_leave body ready file step origin image named possible on

-- the two have the same bytes in each segment and block of the list
abbrev pub SameUsed : ListBody → Image → Image → Type 0
SameUsed body old new = (file : ℕ) → Contains (used_files body) file → bytes_of new file ≡ bytes_of old file

pub used_besides : (body : ListBody) → MeetsRules body → (file : ℕ) (old new : Image) → IsSpare body file → Besides file old new → SameUsed body old new
used_besides body rules file old new spare besides = λ other used. besides other (spare_apart body rules file other spare used)

-- A settled disk stays settled by such a list, where the segments and blocks stay as they were.
module _ (held later : Image) (may_leave may_later : Image → Type 0) (body : ListBody) (generation next_file : ℕ) (loose : List ℕ) (same : SameUsed body held later)
    (still : (file : ℕ) → Contains (used_files body) file → OnlyBytes file (bytes_of held file) may_leave → OnlyBytes file (bytes_of held file) may_later) (ready : IsReady later may_later (Some (renewed body generation next_file loose))) where
  still_used : (file : ℕ) → Contains (used_files body) file → OnlyBytes file (bytes_of held file) may_leave → OnlyBytes file (bytes_of later file) may_later
  still_used file used only = λ image left. still file used only image left ∙ sym (same file used)

  pub settled_renewed : (blocks : List Block) (tail : Tail) (h : History) → IsSettled held may_leave body blocks tail h → IsSettled later may_later (renewed body generation next_file loose) blocks tail h
  settled_renewed blocks tail h s =
      let last : SegmentRef = record { file = tail.file; first = tail.first } in
      let at_tail : Contains body.segments last = subst (λ (l : List SegmentRef). Contains l last) (sym s.written.last) (Contains-append_right s.written.front (last ∷ []) last (at_front last [])) in
      record {
        before = s.before;
        mine = s.mine;
        holds = record {
          listed = ready.stands;
          its_blocks = s.holds.its_blocks;
          built = blocks_same held later blocks (λ x c. same x.file (block_used body blocks x s.holds.its_blocks c)) s.holds.built;
          logged = log_same held later body.segments (first_number body) (s.before ++ s.mine) (λ x c. same x.file (segment_used body x c)) s.holds.logged;
          floored = s.holds.floored;
        };
        written = record {
          front = s.written.front;
          last = s.written.last;
          earlier = log_same held later s.written.front (first_number body) s.before
              (λ x c. same x.file (segment_used body x (subst (λ (l : List SegmentRef). Contains l x) (sym s.written.last) (Contains-append_left s.written.front (last ∷ []) x c)))) s.written.earlier;
          current = subst (λ (b : List ℕ). SegmentHolds tail.first s.mine tail.gate b) (sym (same tail.file (segment_used body last at_tail))) s.written.current;
          counted = s.written.counted;
          follows = s.written.follows;
        };
        lies = record {
          ready = ready;
          segments = λ x c. still_used x.file (segment_used body x c) (s.lies.segments x c);
          built = λ b c. still_used b.file (block_used body blocks b s.holds.its_blocks c) (s.lies.built b c);
        };
        agrees = s.agrees;
        counts = s.counts;
      }

-- one spare file changes
module _ (held later : Image) (may_leave may_later : Image → Type 0) (body : ListBody) (file : ℕ) (step : List ℕ → List ℕ → Type 0) (spare : IsSpare body file) (besides : Besides file held later)
    (crash : Within (Reached (OnFile file step) may_leave) may_later) (blocks : List Block) (tail : Tail) (h : History) (s : IsSettled held may_leave body blocks tail h) where
  rules : MeetsRules body
  rules = rules_in held body s.holds.listed

  pub settled_spare : IsSettled later may_later body blocks tail h
  settled_spare =
      settled_renewed held later may_leave may_later body body.generation body.next_file body.loose (used_besides body rules file held later spare besides)
      (λ other used only image left. let r = crash image left in r.2.besides other (spare_apart body rules file other spare used) ∙ only r.0 r.1)
      (ready_besides file held later may_leave may_later (Some body) (spare_low body rules file spare) besides (λ image left. let r = crash image left in (r.0, r.1, r.2.besides)) s.lies.ready)
      blocks tail h s

-- the blocks of a core stay described, and the rows that wait stay in its log
pub described_used : (held later : Image) (core : CoreState) (m : Machine) → HasState core m → SameUsed core.list held later → AreDescribed held core.infos.items m.state.blocks → AreDescribed later core.infos.items m.state.blocks
described_used held later core m has same was = described_same held later core.infos.items m.state.blocks has.infos
    (λ b inside. same b.file (block_used core.list m.state.blocks b has.blocks inside)) was

pub logged_used : (held later : Image) (list : ListBody) (before faults : ℕ) (m m' : Machine) (e : Event) (r : Reply) → SameUsed list held later
    → Step before faults m e r m' → m'.history ≡ m.history → AreLogged held list (rows_outside m.state) → AreLogged later list (rows_outside m'.state)
logged_used held later list before faults m m' e r same step history =
    logged_same held later list (rows_outside m.state) (rows_outside m'.state) (λ x inside. same x.file (segment_used list x inside)) (step_fewer before faults m m' e r step history)
