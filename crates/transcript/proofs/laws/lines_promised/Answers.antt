use Rattle.rpo_kinds.specs.declared.names.KindName.{KindName}
use Rattle.rpo_kinds.specs.declared.names.KindName.TheVariants as kind
use Rattle.model.specs.Laws.{LotLaws}
use Rattle.promises.specs.Promises.{Promises}
use Rattle.script.specs.Stages.{capacity_size, digest_size, mixing}
use Rattle.transcript.proofs.Promised.{shallow_start, lines_told, lines_alike}
use Rattle.transcript.proofs.laws.lines_promised.Goals as goal

pub returns : goal.returns
returns c =
    let lots : (k : KindName) → LotLaws (capacity_size k) (digest_size k) (mixing k) =
    λ k. elim k as (λ n. LotLaws (capacity_size n) (digest_size n) (mixing n)) [ kind.Drill ↦ c.lot_laws.ensures | kind.Rpo128 ↦ c.lot_laws-2.ensures | kind.Rpo160 ↦ c.lot_laws-3.ensures ] in
    let promised : (k : KindName) → Promises (capacity_size k) (digest_size k) (mixing k) =
    λ k. elim k as (λ n. Promises (capacity_size n) (digest_size n) (mixing n)) [ kind.Drill ↦ c.promises.ensures | kind.Rpo128 ↦ c.promises-2.ensures | kind.Rpo160 ↦ c.promises-3.ensures ] in
    record {
      told = λ start l before e. lines_told l.0 l.1.depth (shallow_start start l e) (lots l.0) (promised l.0) before;
      alike = λ start l one other e same. lines_alike l.0 l.1.depth (shallow_start start l e) (promised l.0) one other same;
    }
