use Rattle.std.proofs.Common.{◌+◌, ◌≤◌, [], length, refl}
use Rattle.few.specs.Contents.{contents}
use Rattle.stream.specs.Outputs.{out_of, Puts}
use Rattle.stream.proofs.Outcomes.{on_err_any}
use Rattle.stream.proofs.Putting.{text_short, fits_empty, fits_room, fails_more, puts_nothing, puts_text}
use Rattle.stream.proofs.output.Output.push.Goals as goal
use Rattle.stream.proofs.output.Output.push.Goals.{then-bytes-room+in_ok-send, else-bytes-room}

pub returns-in_err-send-clause-err : goal.returns-in_err-send-clause-err
returns-in_err-send-clause-err g c = on_err_any c.from_residual.result (fails_more _ _ [] _ c.in_err-send.ensures.err)

pub returns-clause-ok : goal.returns-clause-ok
returns-clause-ok g c =
    let bytes = c.as_bytes-bytes.result.now in
    let room : Puts (out_of g.W.Write.contents c.args.self.now) [] (out_of g.W.Write.contents c.if-bytes-room.self) × (length (contents c.if-bytes-room.self.waiting) + length bytes ≤ 65_536) =
    elim c.if-bytes-room.branch [
      | then-bytes-room+in_ok-send w ↦ rw w.self-is (w.in_ok-send.ensures.ok, fits_empty _ bytes _ w.in_ok-send.ensures.sent c.as_bytes-bytes.ensures (text_short c.args.text.now))
      | else-bytes-room w ↦ rw w.self-is (puts_nothing _, fits_room c.args.self.now.waiting bytes _ c.room.ensures w.if-bytes-room.false)
    ] in
    puts_text _ _ _ 65_536 bytes _ room.0 room.1 c.as_bytes-bytes.ensures refl c.push_all.ensures refl
