-- What is left of the path begins at the level that comes next.
use Rattle.std.proofs.Common.{◌≡◌, ◌*◌, ◌≤◌, take, drop}
use Rattle.openings.specs.Opening.{own_at, pairs_below}
use Rattle.openings.proofs.climbing.climb.Given as goal

abbrev pub invariant-loop-level : goal.invariant-loop-level
invariant-loop-level g l =
    let k = g.K.Kind in
    let n = l.level-iterator.count in
    record {
      can_next : (goal.iterator-loop-level g).can_next l.level-iterator;
      is_finite : (goal.iterator-loop-level g).is_finite l.level-iterator;
      size : l.level-iterator.iter.size ≡ k.DIGEST;
      rest : l.level-iterator.iter.rest.now ≡ drop (n * k.DIGEST) l.path;
      level : n ≤ l.site.depth.levels;
      own : l.own ≡ own_at k.CAPACITY k.DIGEST k.mapping l.site.place l.fn.leaf l.path n;
      pairs : take (n * (2 * k.DIGEST)) l.pairs ≡ pairs_below k.CAPACITY k.DIGEST k.mapping l.site.place l.fn.leaf l.path n;
    }
