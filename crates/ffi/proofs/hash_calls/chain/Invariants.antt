use Rattle.std.proofs.Common.{◌≡◌, length}
use Rattle.ffi.proofs.Pairs.{Before}
use Rattle.ffi.proofs.hash_calls.chain.Given as goal

abbrev pub invariant-loop : goal.invariant-loop
invariant-loop g l = record {
  before : Before g.K.Kind.CAPACITY g.K.Kind.DIGEST g.K.Kind.mapping l.b l.initial.a l.initial.out l.counter l.a l.out;
  same : length l.a ≡ length l.out;
}
