use Rattle.pp_avail.proofs.Digits.{all_digits}
use Rattle.pp_avail.proofs.planes.Planes.places_of.Goals as goal

pub returns : goal.returns
returns c = λ k lt. all_digits c.alike.result c.alike-2.result c.alike-3.result c.alike-4.result c.alike-5.result c.alike-6.result c.alike-7.result c.args.number k
    c.args.self.now.ones c.args.self.now.twos c.args.self.now.fours c.args.self.now.eights c.args.self.now.sixteens c.args.self.now.thirty_twos c.args.self.now.sixty_fours
    c.requires (c.alike.ensures k lt) (c.alike-2.ensures k lt) (c.alike-3.ensures k lt) (c.alike-4.ensures k lt) (c.alike-5.ensures k lt) (c.alike-6.ensures k lt) (c.alike-7.ensures k lt)
