use Rattle.std.proofs.Common.{refl, sym, subst}
use Rattle.store_core.specs.Opening.{HasEntries}
use Rattle.store_reopen.proofs.store.open_again.Goals as goal

pub returns-in-Ok : goal.returns-in-Ok
returns-in-Ok g c = record {
  opened = (c.in-Ok.core, refl, c.in-Ok.ensures.opened, c.entries_of-entries.ensures);
  closed = tt;
  kept = c.in-Ok.ensures.kept;
  left = tt;
  breaks = tt;
  unbroken = c.in-Ok.ensures.unbroken;
  entries = λ told. subst (HasEntries (g.D.Device.held c.args.disk)) (sym c.entries_of-entries.ensures) (c.in-Ok.ensures.entries told);
  sound = tt;
  counts = record {
    time = c.in-Ok.ensures.calls.time;
    telling = c.in-Ok.ensures.calls.telling;
    later = c.in-Ok.ensures.calls.later;
    quiet = λ fine. c.in-Ok.ensures.calls.quiet tt;
    fault = λ failed. cc;
    near = c.in-Ok.ensures.calls.near;
  };
}
