use Rattle.std.proofs.Common.{◌≡◌, length, rules}
use Rattle.sponge.proofs.Sponges.{front_fair, words_state, absorbed}
use Rattle.sponge.proofs.sponge.Sponge.absorb.Goals as goal

pub overwrite-self-requires : goal.overwrite-self-requires
overwrite-self-requires g c =
    let st = c.args.self.now.state in
    let long : length st ≡ 16 = search rules in
    record {
      fair = front_fair g.met.K.Kind.sound st st c.state_len-m.result c.rate.result 0 c.args.self.now.filled 0 c.state_len-m.ensures c.rate.ensures (record { long = long; each = c.args.self.now.elements });
      small = c.args.element.below;
    }

pub invariant_of-self : goal.invariant_of-self
invariant_of-self g c =
    let st = c.args.self.now.state in
    let long : length st ≡ 16 = search rules in
    record { elements = (words_state g.met.K.Kind.sound st c.overwrite-self.new.state c.state_len-m.result c.rate.result c.overwrite-self.result c.args.self.now.filled c.args.element.word c.state_len-m.ensures c.rate.ensures (record { long = long; each = c.args.self.now.elements }) c.args.element.below c.overwrite-self.ensures).each }

pub returns : goal.returns
returns g c =
    let st = c.args.self.now.state in
    let long : length st ≡ 16 = search rules in
    absorbed g.met.K.Kind.sound st c.overwrite-self.new.state c.state_len-m.result c.rate.result c.overwrite-self.result c.args.self.now.filled c.args.element.word c.state_len-m.ensures c.rate.ensures (record { long = long; each = c.args.self.now.elements }) c.args.element.below c.overwrite-self.ensures
