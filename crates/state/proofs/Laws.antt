-- The laws of the steps, together.
use Rattle.state.specs.Laws.{StepLaws}
use Rattle.state.proofs.Answered.{answered}
use Rattle.state.proofs.Chains.{lists_answered}
use Rattle.state.proofs.Kept.{sound-kept, sizes-kept}
use Rattle.state.proofs.Opened.{sound-opened}
use Rattle.state.proofs.Protocol.{follows}
use Rattle.state.proofs.Ways.{refused_keeps, refused_rightly, no-boards-refuse}

pub step-laws : StepLaws
step-laws =
    record {
      opened = sound-opened;
      sound = sound-kept;
      sizes = sizes-kept;
      protocol = follows;
      answered = answered;
      lists_answered = lists_answered;
      refused_keeps = refused_keeps;
      refused_rightly = refused_rightly;
      no_boards = no-boards-refuse;
    }
