-- What the sinks in memory keep.
use Rattle.std.specs.Prelude.{ℕ, List}
use Rattle.hy_base.specs.declared.plain.PlainSink.{PlainSink}
use Rattle.hy_base.specs.declared.memory.MemSink.{MemSink}

-- the bytes that are kept
abbrev pub kept : PlainSink → List ℕ
kept sink = sink.buffer.bytes

-- how many bytes there is room for in all
abbrev pub room_of : PlainSink → ℕ
room_of sink = sink.buffer.room

-- the bytes that went out
abbrev pub sent : MemSink → List ℕ
sent sink = sink.buffer.bytes

-- how many bytes there is room for in all
abbrev pub sent_room : MemSink → ℕ
sent_room sink = sink.buffer.room

-- the calls that fail, with how many bytes of the piece still go out
abbrev pub sink_failing : MemSink → List (ℕ × ℕ)
sink_failing sink = sink.failing.items

-- the number of the next call
abbrev pub sink_call : MemSink → ℕ
sink_call sink = sink.calls
