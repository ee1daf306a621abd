-- What is shown of the headers of frames.
-- Assumes nothing.
use Rattle.frames.specs.Statements.{HeadersRead}
use Rattle.frames.proofs.ReadBack.{head_back, frame_again}
use Rattle.frames.proofs.bits.Heads.{bit_head_back, bit_frame_again}
use Rattle.frames.proofs.bits.Settled.{bits_settled}

pub headers_read : HeadersRead
headers_read = record {
  back = head_back;
  again = frame_again;
  bits_back = bit_head_back;
  bits_again = λ s f ok. bit_frame_again s f (bits_settled s ok);
}
