use Rattle.openings.proofs.Admitted.{pairs_front}
use Rattle.openings.proofs.checking.check.Goals as goal

pub reach-requires : goal.reach-requires
reach-requires g c =
    let each = c.in_ok-admit_words.ensures.each in
    record {
      fair = record { each = rw c.words_of.ensures at each.1.0; path_fits = record { long = c.in_ok-admit.ensures.paths.0; each = each.1.1.0 } };
      room = rw (← c.levels.ensures.exact) (pairs_front g.met.K.Kind.sound c.levels.result c.rate.result c.levels.ensures.shallow c.rate.ensures);
    }
