-- What the adapters over the system's streams stand on.
use Rattle.trace_shell.specs.declared.real.StdinSource.{StdinSource}
use Rattle.trace_shell.specs.declared.real.StdoutSink.{StdoutSink}

-- The reader that a source takes from, and the writer that a sink gives to.
abbrev pub reader_of : {R : Type 0} → StdinSource R → R
reader_of source = source.reader

abbrev pub writer_of : {W : Type 0} → StdoutSink W → W
writer_of sink = sink.writer
