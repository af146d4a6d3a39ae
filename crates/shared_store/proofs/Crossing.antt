-- A core goes from one thread to another where its disk does. The lemmas are steps from its parts to the whole, since one search can't go so far.
use denote.RattleType.{RattleType}
use denote.Struct.Declared.{fields, shape}
use denote.Struct.Struct.{Struct}
use denote.Param.Send.{AllSend, IsSend, IsSync, owning_send, recorded_send, sendable, struct_send}
use Rattle.std.proofs.Crossing as std
use Rattle.std.proofs.MapsCrossing as maps
use Rattle.lru.proofs.Crosses.{KeyRef-send, List-send, Deed-send}
use Rattle.span_types.specs.contracts.text.Text as Text
use Rattle.span_types.specs.contracts.attrs.Attr as Attr
use Rattle.span_types.specs.contracts.attrs.Attrs as Attrs
use Rattle.span_types.specs.contracts.attrs.Resource as Resource
use Rattle.span_types.specs.contracts.attrs.Scope as Scope
use Rattle.span_types.specs.contracts.spans.SpanEvent as SpanEvent
use Rattle.span_types.specs.contracts.spans.SpanLink as SpanLink
use Rattle.span_types.specs.contracts.spans.Span as Span
use Rattle.live_traces.specs.contracts.chunk.Chunk as Chunk
use Rattle.live_traces.specs.contracts.chunk.SharedRow as SharedRow
use Rattle.live_traces.specs.contracts.run.Run as Run
use Rattle.live_traces.specs.contracts.live.Ready as Ready
use Rattle.live_traces.specs.contracts.live.Live as Live
use Rattle.block_info.specs.contracts.info.BlockInfo as BlockInfo
use Rattle.block_list.specs.contracts.body.ListBody as ListBody
use Rattle.head_log.specs.contracts.segment.Segment as Segment
use Rattle.store_core.specs.contracts.jobs.Jobs as Jobs
use Rattle.store_core.specs.contracts.store.Core as Core
use Rattle.store_core.specs.contracts.since.Since as Since
use Rattle.store_core.specs.contracts.state.CoreState as State
use Rattle.page_cache.specs.contracts.cache.PageCache as Cache

-- When the opening ended is no memory.
pub since_send : IsSend Since.the_row
since_send = owning_send Since.the_type (search sendable, tt) (λ d. tt) (λ k x w. tt)

pub text_send : IsSend Text.the_row
text_send = search (sendable, std.crosses, maps.crosses) depth 80 fits 100000

pub text_sync : IsSync Text.the_row
text_sync = search (sendable, std.crosses, maps.crosses) depth 80 fits 100000

pub attr_send : IsSend Attr.the_row
attr_send = search (sendable, std.crosses, maps.crosses, text_send, text_sync) depth 80 fits 100000

pub attr_sync : IsSync Attr.the_row
attr_sync = search (sendable, std.crosses, maps.crosses, text_send, text_sync) depth 80 fits 100000

pub attrs_send : IsSend Attrs.the_row
attrs_send = search (sendable, std.crosses, maps.crosses, attr_send, attr_sync) depth 80 fits 100000

pub attrs_sync : IsSync Attrs.the_row
attrs_sync = search (sendable, std.crosses, maps.crosses, attr_send, attr_sync) depth 80 fits 100000

pub resource_send : IsSend Resource.the_row
resource_send = search (sendable, std.crosses, maps.crosses, attrs_send, attrs_sync) depth 80 fits 100000

pub resource_sync : IsSync Resource.the_row
resource_sync = search (sendable, std.crosses, maps.crosses, attrs_send, attrs_sync) depth 80 fits 100000

pub scope_send : IsSend Scope.the_row
scope_send = search (sendable, std.crosses, maps.crosses, text_send, attrs_send, text_sync, attrs_sync) depth 80 fits 100000

pub scope_sync : IsSync Scope.the_row
scope_sync = search (sendable, std.crosses, maps.crosses, text_send, attrs_send, text_sync, attrs_sync) depth 80 fits 100000

pub event_send : IsSend SpanEvent.the_row
event_send = search (sendable, std.crosses, maps.crosses, text_send, attrs_send, text_sync, attrs_sync) depth 80 fits 100000

pub event_sync : IsSync SpanEvent.the_row
event_sync = search (sendable, std.crosses, maps.crosses, text_send, attrs_send, text_sync, attrs_sync) depth 80 fits 100000

pub link_send : IsSend SpanLink.the_row
link_send = search (sendable, std.crosses, maps.crosses, attrs_send, attrs_sync) depth 80 fits 100000

pub link_sync : IsSync SpanLink.the_row
link_sync = search (sendable, std.crosses, maps.crosses, attrs_send, attrs_sync) depth 80 fits 100000

pub span_send : IsSend Span.the_row
span_send = search (sendable, std.crosses, maps.crosses, text_send, attrs_send, resource_send, scope_send, event_send, link_send, text_sync, attrs_sync, resource_sync, scope_sync, event_sync, link_sync) depth 80 fits 100000

pub span_sync : IsSync Span.the_row
span_sync = search (sendable, std.crosses, maps.crosses, text_send, attrs_send, resource_send, scope_send, event_send, link_send, text_sync, attrs_sync, resource_sync, scope_sync, event_sync, link_sync) depth 80 fits 100000

pub chunk_send : IsSend Chunk.the_row
chunk_send = search (sendable, std.crosses, maps.crosses, span_send, span_sync) depth 80 fits 100000

pub chunk_sync : IsSync Chunk.the_row
chunk_sync = search (sendable, std.crosses, maps.crosses, span_send, span_sync) depth 80 fits 100000

pub row_send : IsSend SharedRow.the_row
row_send = search (sendable, std.crosses, maps.crosses, chunk_send, chunk_sync) depth 80 fits 100000

pub row_sync : IsSync SharedRow.the_row
row_sync = search (sendable, std.crosses, maps.crosses, chunk_send, chunk_sync) depth 80 fits 100000

pub run_send : IsSend Run.the_row
run_send = search (sendable, std.crosses, maps.crosses, row_send, row_sync) depth 80 fits 100000

pub run_sync : IsSync Run.the_row
run_sync = search (sendable, std.crosses, maps.crosses, row_send, row_sync) depth 80 fits 100000

pub ready_send : IsSend Ready.the_row
ready_send = search (sendable, std.crosses, maps.crosses, chunk_send) depth 80 fits 100000

pub live_send : IsSend Live.the_row
live_send = search (sendable, std.crosses, maps.crosses, chunk_send, run_send, row_send, row_sync) depth 80 fits 100000

pub info_send : IsSend BlockInfo.the_row
info_send = search (sendable, std.crosses, maps.crosses) depth 80 fits 100000

pub info_sync : IsSync BlockInfo.the_row
info_sync = search (sendable, std.crosses, maps.crosses) depth 80 fits 100000

pub list_send : IsSend ListBody.the_row
list_send = search (sendable, std.crosses, maps.crosses) depth 80 fits 100000

pub segment_send : IsSend Segment.the_row
segment_send = search (sendable, std.crosses, maps.crosses) depth 80 fits 100000

pub jobs_send : IsSend Jobs.the_row
jobs_send = search (sendable, std.crosses, maps.crosses) depth 80 fits 100000

pub state_send : IsSend (State.the_field).row
state_send = search (sendable, std.crosses, maps.crosses, ready_send, live_send, info_send, info_sync, list_send, segment_send, jobs_send) depth 80 fits 100000

pub cache_send : IsSend (Cache.the_field).row
cache_send = search (sendable, std.crosses, maps.crosses, KeyRef-send, List-send, Deed-send) depth 80 fits 100000

-- The parts of a core, as its fields have them.
since_field : IsSend (Since.the_field).row
since_field = owning_send Since.the_type (search sendable, tt) (λ d. tt) (λ k x w. tt)

pub core_send : (D : RattleType) → IsSend D → IsSend (Core.the_row D)
core_send D disk =
    let T = Core.the_type D in
    let all : AllSend (fields T) = (search (sendable, std.crosses), (search (sendable, disk), (state_send, (since_field, (cache_send, tt))))) in
    let inner : IsSend (Struct (shape T)) = struct_send (shape T) all in search (recorded_send, inner)
