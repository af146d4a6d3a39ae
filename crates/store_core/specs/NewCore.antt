-- The core of a new store.
use Rattle.std.specs.Prelude.{◌≡◌, [], ◌∷◌, None}
use Rattle.store_model.specs.History.{History}
use Rattle.store_model.specs.Step.{Machine}
use Rattle.store_core.specs.Jobs.{HasNoJobs}
use Rattle.store_core.specs.New.{new_list, new_tail, IsEmptyHistory}
use Rattle.store_core.specs.Cores.{HasState, unsure_of}
use Rattle.store_files.specs.LogReading.{tail_of}
use Rattle.store_core.specs.declared.state.CoreState.{CoreState}

-- no rows, one segment, and no job or pin
abbrev pub new_machine : History → Machine
new_machine h = record {
  state = record {
    live = [];
    head = [];
    flush = None;
    compaction = None;
    blocks = [];
    segments = record { file = 2; first = 0 } ∷ [];
    floor = 0;
    loose = [];
    pins = [];
    next_file = 3;
    begun = 0;
  };
  history = h;
  read_only = None;
}

pub record IsNewState (state : CoreState) : Type 0 where
  pub has : (h : History) → IsEmptyHistory h → HasState state (new_machine h)
  pub list : state.list ≡ new_list
  pub tail : tail_of state.segment ≡ new_tail
  pub writes : state.read_only ≡ None
  pub sure : unsure_of state ≡ None
  pub jobs : HasNoJobs state.jobs state.list.next_file
