use Rattle.std.proofs.Common.{◌≡◌, ap, length, arith, rules}
use Rattle.kinds.specs.Denials.{number_of, values_of}
use Rattle.ffi.proofs.Pairs.{next, stopped}
use Rattle.ffi.proofs.hash_calls.chain.Goals as goal

pub loop-preserved : goal.loop-preserved
loop-preserved g c =
    let copied : c.copy_from_slice.new.self ≡ c.two_to_one.new.out = c.copy_from_slice.ensures.after in
    record {
      before = next g.met.K.Kind.sound c.args.b.now c.args.a.now c.args.out.now c.loop.counter c.loop.a c.loop.out c.two_to_one.new.out c.copy_from_slice.new.self c.loop.invariant.before c.in_ok-two_to_one.ensures copied;
      same = ap length copied;
    }

pub returns-in_err-two_to_one : goal.returns-in_err-two_to_one
returns-in_err-two_to_one g c =
    let why = c.in_err-two_to_one.field-0.0 in
    let long : length c.args.a.now ≡ length c.args.out.now = omega arith in
    let h = stopped g.met.K.Kind.sound c.args.b.now c.args.a.now c.args.out.now long c.loop.counter c.args.n c.loop.a c.loop.out c.two_to_one.new.out (number_of why) (values_of why) (omega arith) c.loop.invariant.before c.in_err-two_to_one.ensures in
    search (rules, h)
