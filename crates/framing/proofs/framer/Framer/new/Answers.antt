use Rattle.framing.proofs.Bodies.{bodies_follow_last_pairs}
use Rattle.framing.proofs.Running.{gives_sound_frames}
use Rattle.framing.proofs.Stretching.{stretches_end_at_FD}
use Rattle.framing.proofs.framer.Framer.new.Goals as goal

pub returns-clause-sound_frames : goal.returns-clause-sound_frames
returns-clause-sound_frames c = gives_sound_frames

pub returns-clause-stretches : goal.returns-clause-stretches
returns-clause-stretches c = stretches_end_at_FD

pub returns-clause-bodies : goal.returns-clause-bodies
returns-clause-bodies c = bodies_follow_last_pairs
