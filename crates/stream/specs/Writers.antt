-- What a clause sees of a writer of an archive.
use Rattle.std.specs.Prelude.{ℕ, List, Option}
use Rattle.lines.specs.Texts.{text_of}
use Rattle.host.specs.Hosts.{shown}
use Rattle.stream.specs.declared.writer.ArchiveWriter.{ArchiveWriter}
use Rattle.stream.specs.Outputs.{out_of}
use Rattle.stream.specs.Streams.{Seen}

-- held says what the writer below it holds
abbrev pub seen : {W : Type 0} → (W → Option (List ℕ)) → ArchiveWriter W → Seen
seen held w = record { host = shown w.host; begun = text_of w.begun; out = out_of held w.output }
