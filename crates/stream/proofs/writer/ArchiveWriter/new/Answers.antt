use Rattle.stream.proofs.Streaming.{begins_new}
use Rattle.stream.proofs.writer.ArchiveWriter.new.Goals as goal

pub returns : goal.returns
returns g c = begins_new _ _ c.new.ensures.desk c.new.ensures.unread c.new.ensures.places c.new-3.ensures c.new-4.ensures
