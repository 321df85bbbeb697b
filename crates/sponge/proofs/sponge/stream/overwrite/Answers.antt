use Rattle.sponge.proofs.Parts.{set_state}
use Rattle.sponge.proofs.sponge.stream.overwrite.Goals as goal

pub mix-requires : goal.mix-requires
mix-requires g c = set_state _ c.args.state.now _ c.args.word c.requires.small c.requires.fair.holds
