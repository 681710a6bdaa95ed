use Rattle.std.specs.Prelude.{IsTrue}
use Rattle.order_ints.proofs.Standing.{Represents-more, Represents-fewer, Represents-both, Represents-both_tests, Represents-through}
use Rattle.order_ints.proofs.order_laws.represents_law.Goals as goal

pub returns-clause-more : goal.returns-clause-more
returns-clause-more c = λ n m k meets holds le r. Represents-more n m k (λ σ. IsTrue (meets σ)) (λ σ. IsTrue (holds σ)) le r

pub returns-clause-fewer : goal.returns-clause-fewer
returns-clause-fewer c = λ k n m meets holds le depends r. Represents-fewer k n m (λ σ. IsTrue (meets σ)) (λ σ. IsTrue (holds σ)) le depends r

pub returns-clause-both : goal.returns-clause-both
returns-clause-both c = λ n m k meets also holds too r s depends. Represents-both n m k (λ σ. IsTrue (meets σ)) (λ σ. IsTrue (also σ)) (λ σ. IsTrue (holds σ)) (λ σ. IsTrue (too σ)) r s depends

pub returns-clause-through : goal.returns-clause-through
returns-clause-through c = λ n m k further meets holds r s. Represents-through n m k (λ σ. IsTrue (further σ)) (λ σ. IsTrue (meets σ)) (λ σ. IsTrue (holds σ)) r s

pub returns-clause-both_tests : goal.returns-clause-both_tests
returns-clause-both_tests c = Represents-both_tests
