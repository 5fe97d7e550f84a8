-- What holds of all input and of every archive.
use Rattle.register.proofs.WholeLaw.{law}
use Rattle.archive.proofs.Archiving.{archive_law}
use Rattle.archive.proofs.Telling.{texts_tell}
use Rattle.stream.specs.Streams.{StreamLaws}
use Rattle.stream.proofs.OneAnswers.{one_answer}

pub stream_laws : StreamLaws
stream_laws = record { register = archive_law; holders = law; told = texts_tell; one = one_answer }
