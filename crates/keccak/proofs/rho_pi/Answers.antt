-- Lane by lane, what each call of rho gives is the lane that pi takes from there.
use Rattle.keccak.specs.Keccak.{rho, pi}
use Rattle.keccak.proofs.rho_pi.Goals as goal

pub returns : goal.returns
unfolding rho pi
returns c =
    simp (
      c.rho.ensures,
      c.rho-2.ensures,
      c.rho-3.ensures,
      c.rho-4.ensures,
      c.rho-5.ensures,
      c.rho-6.ensures,
      c.rho-7.ensures,
      c.rho-8.ensures,
      c.rho-9.ensures,
      c.rho-10.ensures,
      c.rho-11.ensures,
      c.rho-12.ensures,
      c.rho-13.ensures,
      c.rho-14.ensures,
      c.rho-15.ensures,
      c.rho-16.ensures,
      c.rho-17.ensures,
      c.rho-18.ensures,
      c.rho-19.ensures,
      c.rho-20.ensures,
      c.rho-21.ensures,
      c.rho-22.ensures,
      c.rho-23.ensures,
      c.rho-24.ensures,
      c.rho-25.ensures,
    )
