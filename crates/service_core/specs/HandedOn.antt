-- To which service a post goes, for the crates above.
pub use Rattle.service_posts.specs.Goes.{GoesTo}
