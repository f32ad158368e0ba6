-- What private functions give: a reader of the public contracts needs none of it.
pub mod Ways
pub mod RouteOffers
pub mod NewItems
pub mod RipMove
