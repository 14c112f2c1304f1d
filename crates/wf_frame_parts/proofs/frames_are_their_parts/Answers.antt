use Rattle.wf_frame_parts.proofs.FrameParts.{parts_stand}
use Rattle.wf_frame_parts.proofs.frames_are_their_parts.Goals as goal

pub returns : goal.returns
returns c = parts_stand
